-- What looks at the published state tell.
use Rattle.std.specs.Prelude.{◌≡◌, ℕ, List, false, Result, Ok, Err}
use Rattle.std.specs.declared.vec.Vec.{Vec}
use Rattle.std.specs.declared.alloc.Global.{Global}
use mathlib.Core.List.{IsPrefix}
use Rattle.hg_changeset.specs.declared.node.Node.{Node}
use Rattle.hg_replica.specs.State.{IsValid}
use Rattle.hg_message.specs.declared.scope.Scope.{Scope}
use Rattle.hg_message.specs.declared.refusal.OfferRefusal.TheVariants as message
use Rattle.hg_message.specs.Value.{MessageValue, is_too_large}
use Rattle.hg_message.specs.Spelling.{message_spelling}
use Rattle.hg_message.specs.Offer.{OfferAnswer}
use Rattle.hg_view.specs.Kept.{KeptValue}
use Rattle.hg_peer.specs.declared.refusal.PeerRefusal.{PeerRefusal}
use Rattle.hg_peer.specs.declared.refusal.PeerRefusal.TheVariants as peer
use Rattle.hg_peer.specs.Peers.{CanBeWritten, IsAgainstWriting, OfferMayWantMemory}
use Rattle.hg_live.specs.declared.answer.LookRefusal.{LookRefusal}
use Rattle.hg_live.specs.declared.answer.LookRefusal.TheVariants.{NotEntered, NoMemory}
use Rattle.hg_live.specs.declared.answer.NotOffered.{NotOffered}
use Rattle.hg_live.specs.declared.answer.NotOffered.TheVariants as offer
use Rattle.hg_live.specs.After.{IsAfter}
use Rattle.hg_live.specs.NodeViews.{PassView}

-- the pass has seen a list that begins with all that it had seen, and P holds of the state that the list leads to
pub record Looked (o : KeptValue) (P : KeptValue → Type 0) (old new : PassView) : Type 0 where
  pub seen : IsPrefix old.seen new.seen
  pub told : new.told ≡ old.told
  pub calls : new.calls ≡ old.calls
  pub state : KeptValue
  pub after : IsAfter o new.seen state
  pub so : P state

-- the answer to a look that tells x where P holds of x at the state that is published
abbrev pub LookAnswer : {A : Type 0} → KeptValue → (KeptValue → A → Type 0) → PassView → Result A LookRefusal →
    PassView → Type 0
LookAnswer o P old (Ok x) new = Looked o (λ s. P s x) old new
LookAnswer o P old (Err NotEntered) new = new ≡ old
LookAnswer o P old (Err NoMemory) new = Looked o (λ s. Unit {0}) old new

-- ---- offers

-- the state is valid and holds the common nodes, and the bytes are what is written of its offer of the scope above
-- them, under its pins: what a peer in that state offers
abbrev pub OffersAbove : KeptValue → List Node → Scope → List ℕ → Type 0
OffersAbove s common scope bytes =
    IsValid s.replica × ((m : MessageValue) × OfferAnswer s.replica s.pins common scope (Ok m) × CanBeWritten m
    × (bytes ≡ message_spelling m))

-- the first of the common nodes that isn't held; or the offer above them is too large
abbrev pub IsAgainstOffering : KeptValue → List Node → Scope → PeerRefusal → Type 0
IsAgainstOffering s common scope (peer.Rewrite refusal) = ⊥
IsAgainstOffering s common scope (peer.Offer (message.UnknownCommon node)) =
    OfferAnswer s.replica s.pins common scope (Err (message.UnknownCommon node))
IsAgainstOffering s common scope (peer.Offer message.TooLarge) =
    OfferAnswer s.replica s.pins common scope (Err message.TooLarge)
IsAgainstOffering s common scope (peer.Offer message.NoMemory) = ⊥
IsAgainstOffering s common scope (peer.Message fault) = ⊥
IsAgainstOffering s common scope (peer.View refusal) = ⊥
IsAgainstOffering s common scope peer.NoMemory = ⊥

-- the answer to an offer. Want of memory is told only where each common node is held, and never of what was found and
-- is too large
abbrev pub OfferLookAnswer : KeptValue → List Node → Scope → PassView → Result (Vec ℕ Global) NotOffered → PassView →
    Type 0
OfferLookAnswer o common scope old (Ok bytes) new = Looked o (λ s. OffersAbove s common scope bytes.items) old new
OfferLookAnswer o common scope old (Err offer.NotEntered) new = new ≡ old
OfferLookAnswer o common scope old (Err (offer.Refused refusal)) new =
    Looked o (λ s. IsAgainstOffering s common scope refusal) old new
OfferLookAnswer o common scope old (Err offer.NoMemory) new =
    Looked o (λ s. OfferMayWantMemory s common scope) old new

-- the answer of the state itself
abbrev pub StateOffers : KeptValue → List Node → Scope → Result (Vec ℕ Global) NotOffered → Type 0
StateOffers s common scope (Ok bytes) = OffersAbove s common scope bytes.items
StateOffers s common scope (Err offer.NotEntered) = ⊥
StateOffers s common scope (Err (offer.Refused refusal)) = IsAgainstOffering s common scope refusal
StateOffers s common scope (Err offer.NoMemory) = OfferMayWantMemory s common scope

-- what is written of a message, which can be too large; memory can be wanting only where it isn't
abbrev pub Writes : MessageValue → Result (Vec ℕ Global) NotOffered → Type 0
Writes m (Ok bytes) = CanBeWritten m × (bytes.items ≡ message_spelling m)
Writes m (Err offer.NotEntered) = ⊥
Writes m (Err (offer.Refused refusal)) = IsAgainstWriting m refusal
Writes m (Err offer.NoMemory) = is_too_large m ≡ false
