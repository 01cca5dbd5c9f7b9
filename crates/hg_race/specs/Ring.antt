-- What peers in a ring take from each other.
use Rattle.std.specs.Prelude.{◌≡◌, ◌≢◌, ℕ, ◌+◌, List, [], ◌∷◌, ◌++◌, length, Option, Some, None, Result, Ok, Err}
use Rattle.std.specs.Prelude.{slice_get, slice_set}
use Rattle.std.specs.List.{AllByRecursion}
use Rattle.hg_history.specs.declared.fault.Fault.{Fault}
use Rattle.hg_history.specs.declared.fault.Fault.TheVariants as fault
use Rattle.hg_replica.specs.Change.{ChangeValue}
use Rattle.hg_replica.specs.Least.{PartValue}
use Rattle.hg_view.specs.Kept.{KeptValue}
use Rattle.hg_message.specs.declared.scope.Scope.TheVariants.{Whole}
use Rattle.hg_peer.specs.declared.ask.Ask.{Ask}
use Rattle.hg_peer.specs.declared.refusal.PeerRefusal.{PeerRefusal}
use Rattle.hg_peer.specs.declared.refusal.PeerRefusal.TheVariants.{NoMemory}
use Rattle.hg_peer.specs.Peers.{Offers, IsAgainstOffer, TakesBytes}
use Rattle.hg_peer.specs.Words.{PeerAnswer, PeerEvent, PeerWorld, peer_state, peer_words}
use Rattle.hg_world.specs.declared.event.Answer.TheVariants.{Accepted, Offered, Marked, Refused}
use Rattle.hg_world.specs.Runs.{IsMemory, Runs}

-- the bytes of an offer, if there is one
abbrev pub Offer : Type 0
Offer = Option (List ℕ)

-- all of the scope above nothing is asked for
abbrev pub AsksForAll : Ask → Type 0
AsksForAll ask = (ask.common.items ≡ []) × (ask.scope ≡ Whole)

-- what the peer offers of its whole history; none where it refuses
abbrev pub IsWholeOffer : KeptValue → Offer → Type 0
IsWholeOffer s (Some bytes) = (ask : Ask) × AsksForAll ask × Offers s ask bytes
IsWholeOffer s None = (ask : Ask) × AsksForAll ask × ((refusal : PeerRefusal) × IsAgainstOffer s ask refusal)

-- the answer to bytes that were taken says nothing of memory
abbrev pub IsNotOfMemory : Result (Result ChangeValue Fault) PeerRefusal → Type 0
IsNotOfMemory answer = (answer ≢ Err NoMemory) × (answer ≢ Ok (Err fault.NoMemory))

-- the peer took the offer in, or refused it and is as it was, as where there is none
abbrev pub TakesOffer : KeptValue → Offer → KeptValue → Type 0
TakesOffer s (Some bytes) t =
    (answer : Result (Result ChangeValue Fault) PeerRefusal) × TakesBytes s bytes answer t × IsNotOfMemory answer
TakesOffer s None t = t ≡ s

-- the first one took the offer, and each other the whole offer of the one before; what the last one then offers is left
abbrev pub PassesAlong : Offer → List KeptValue → List KeptValue → Offer → Type 0
PassesAlong offer [] [] left = left ≡ offer
PassesAlong offer [] (t ∷ ts) left = ⊥
PassesAlong offer (s ∷ ss) [] left = ⊥
PassesAlong offer (s ∷ ss) (t ∷ ts) left =
    TakesOffer s offer t × ((next : Offer) × IsWholeOffer t next × PassesAlong next ss ts left)

-- once round: the second one took the whole offer of the first, then each other that of the one before, and the first
-- one, as the last of all, that of the last
abbrev pub GoesRound : List KeptValue → List KeptValue → Type 0
GoesRound [] [] = Unit {0}
GoesRound [] (t ∷ ts) = ⊥
GoesRound (s ∷ ss) [] = ⊥
GoesRound (s ∷ ss) (t ∷ ts) =
    (offer : Offer) × (left : Offer) × IsWholeOffer s offer × PassesAlong offer ss ts left × TakesOffer s left t

abbrev pub GoesRoundTwice : List KeptValue → List KeptValue → Type 0
GoesRoundTwice ss us = (ts : List KeptValue) × GoesRound ss ts × GoesRound ts us

-- ---- of the peers of a fleet

-- what became of the fleet is a run of its world
abbrev pub RunsOn : PeerWorld → PeerWorld → Type 0
RunsOn old new = (events : List PeerEvent) × (answers : List PeerAnswer) × (parts : List (Option PartValue))
    × Runs peer_state peer_words old events answers parts new

-- the answer says no more than that memory ran out
abbrev pub IsOfMemory : PeerAnswer → Type 0
IsOfMemory (Accepted change) = ⊥
IsOfMemory (Offered number) = ⊥
IsOfMemory Marked = ⊥
IsOfMemory (Refused refusal) = IsMemory peer_state peer_words refusal

abbrev pub NoneIsOfMemory : List PeerAnswer → Type 0
NoneIsOfMemory answers = AllByRecursion (λ answer. ¬ (IsOfMemory answer)) answers

-- the peer at one place took the whole offer of the one at another, and no other peer changed
pub record Shares (taker giver : ℕ) (ss ts : List KeptValue) : Type 0 where
  pub old : KeptValue
  pub gives : KeptValue
  pub new : KeptValue
  pub offer : Offer
  pub taker_at : slice_get ss taker ≡ Some old
  pub giver_at : slice_get ss giver ≡ Some gives
  pub offered : IsWholeOffer gives offer
  pub taken : TakesOffer old offer new
  pub only : ts ≡ slice_set ss taker new

-- the rest of a round, where the peers up to this place have taken: each other took the whole offer of the one before,
-- and then the first one that of the last
abbrev pub EndsRound : ℕ → List KeptValue → List KeptValue → Type 0
EndsRound taker ss us = (first gives : KeptValue) (done rest : List KeptValue) → ss ≡ first ∷ done ++ rest
    → taker ≡ 1 + length done → slice_get (first ∷ done) (length done) ≡ Some gives
    → (last : KeptValue) × (ts : List KeptValue) × (offer : Offer) × (left : Offer) × (us ≡ last ∷ done ++ ts)
    × IsWholeOffer gives offer × PassesAlong offer rest ts left × TakesOffer first left last
