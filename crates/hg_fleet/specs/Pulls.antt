-- Pulls: what one peer takes in of what another offers above what both have in common.
use Rattle.std.specs.Prelude.{◌≡◌, ◌⊎◌, ℕ, List, [], ◌∷◌, Option, Some, None, slice_get}
use Rattle.std.specs.declared.vec.Vec.{Vec}
use Rattle.std.specs.declared.alloc.Global.{Global}
use Rattle.std.specs.List.{AllByRecursion}
use Rattle.hg_changeset.specs.declared.node.Node.{Node}
use Rattle.hg_history.specs.declared.fault.Fault.{Fault}
use Rattle.hg_replica.specs.Least.{PartValue}
use Rattle.hg_view.specs.Kept.{KeptValue}
use Rattle.hg_message.specs.declared.scope.Scope.{Scope}
use Rattle.hg_message.specs.declared.scope.Scope.TheVariants.{Served, Whole}
use Rattle.hg_world.specs.Runs.{Snapshot, Runs, place_of}
use Rattle.hg_world.specs.declared.event.Event.TheVariants.{Local, Offer, Take, Mark}
use Rattle.hg_world.specs.declared.event.EventRefusal.{EventRefusal}
use Rattle.hg_world.specs.declared.event.EventRefusal.TheVariants.{NoNode, NoMessage, ByActor, ByState}
use Rattle.hg_world.specs.declared.event.Answer.TheVariants.{Accepted, Offered, Marked, Refused}
use Rattle.hg_peer.specs.declared.ask.Ask.{Ask}
use Rattle.hg_peer.specs.declared.refusal.PeerRefusal.{PeerRefusal}
use Rattle.hg_peer.specs.Words.{PeerAnswer, PeerEvent, peer_state, peer_words}
use Rattle.hg_discovery.specs.Between.{AreHeadsInCommon}
use Rattle.hg_fleet.specs.declared.pulled.Pulled.{Pulled}

-- what a pull of this scope leaves out: what both have in common by its heads, under the pins of the giver, where it is
-- of what is served, and nothing, where it is of the whole
abbrev pub AreLeftOut : Scope → KeptValue → KeptValue → List Node → Type 0
AreLeftOut Served ours theirs heads = AreHeadsInCommon ours.replica theirs.replica theirs.pins heads
AreLeftOut Whole ours theirs heads = heads ≡ []

-- what the peer at one place leaves out of what it asks of the peer at another
abbrev pub AreLeftOutAt : Scope → Snapshot KeptValue → ℕ → ℕ → List Node → Type 0
AreLeftOutAt scope world taker giver heads =
    (ours : KeptValue) × (theirs : KeptValue) × (slice_get world.nodes taker ≡ Some ours)
    × (slice_get world.nodes giver ≡ Some theirs) × AreLeftOut scope ours theirs heads

-- what is asked of a scope above common nodes
abbrev pub asking : Scope → Vec Node Global → Ask
asking scope common = record { common = common; scope = scope }

-- what the taker of a pull takes: the message that was offered, if one was
abbrev pub taken : ℕ → List PeerAnswer → List PeerEvent
taken taker [] = []
taken taker (Accepted change ∷ answers) = []
taken taker (Offered number ∷ answers) = Take taker number ∷ []
taken taker (Marked ∷ answers) = []
taken taker (Refused refusal ∷ answers) = []

-- the taking, if there was one, as a list
abbrev pub if_taken : Option PeerAnswer → List PeerAnswer
if_taken None = []
if_taken (Some answer) = answer ∷ []

-- the world ran what the taker takes of an offer that was answered so, and it was answered so
abbrev pub TakesOffered : Snapshot KeptValue → ℕ → PeerAnswer → Option PeerAnswer → Snapshot KeptValue → Type 0
TakesOffered old taker offered answer new =
    (parts : List (Option PartValue))
    × Runs peer_state peer_words old (taken taker (offered ∷ if_taken answer)) (if_taken answer) parts new

-- what the offer was answered, and then what the taking was, where something was offered
abbrev pub answers_of : Pulled → List PeerAnswer
answers_of pulled = pulled.offered ∷ if_taken pulled.taken

-- the world ran an offer of the scope above what the pull leaves out, and then the taking of what was offered, and they
-- were answered so
pub record Pulls (old : Snapshot KeptValue) (taker giver : ℕ) (scope : Scope) (answers : List PeerAnswer)
    (new : Snapshot KeptValue) : Type 0 where
  pub common : Vec Node Global
  pub left_out : AreLeftOutAt scope old taker giver common.items
  pub parts : List (Option PartValue)
  pub ran : Runs peer_state peer_words old (Offer giver (asking scope common) ∷ taken taker answers) answers parts new

-- the refusal says that there is no such peer, or no such message
abbrev pub IsAbsence : EventRefusal PeerRefusal Fault → Type 0
IsAbsence NoNode = Unit {0}
IsAbsence NoMessage = Unit {0}
IsAbsence (ByActor refusal) = ⊥
IsAbsence (ByState fault) = ⊥

-- the answer says so
abbrev pub TellsAbsence : PeerAnswer → Type 0
TellsAbsence (Accepted change) = ⊥
TellsAbsence (Offered number) = ⊥
TellsAbsence Marked = ⊥
TellsAbsence (Refused refusal) = IsAbsence refusal

-- the message that the event takes isn't there
abbrev pub LacksMessage : Snapshot KeptValue → PeerEvent → Type 0
LacksMessage world (Local at op) = ⊥
LacksMessage world (Offer at ask) = ⊥
LacksMessage world (Take at message) = slice_get world.messages message ≡ None
LacksMessage world (Mark at mark) = ⊥

-- there is no peer at the event's place, or no message that it takes
abbrev pub IsNowhere : Snapshot KeptValue → PeerEvent → Type 0
IsNowhere world asked = (slice_get world.nodes (place_of asked) ≡ None) ⊎ LacksMessage world asked

-- there is no peer at one of the places
abbrev pub IsOneAbsent : Snapshot KeptValue → ℕ → ℕ → Type 0
IsOneAbsent world taker giver = (slice_get world.nodes taker ≡ None) ⊎ (slice_get world.nodes giver ≡ None)

-- what a pull gives: what it was answered, which tells of nothing that it is absent; or nothing, and nothing changed,
-- where one of the two is absent
abbrev pub IsPulled : Snapshot KeptValue → ℕ → ℕ → Scope → Option Pulled → Snapshot KeptValue → Type 0
IsPulled old taker giver scope None new = IsOneAbsent old taker giver × (new ≡ old)
IsPulled old taker giver scope (Some pulled) new =
    Pulls old taker giver scope (answers_of pulled) new
    × AllByRecursion (λ answer. ¬ (TellsAbsence answer)) (answers_of pulled)
