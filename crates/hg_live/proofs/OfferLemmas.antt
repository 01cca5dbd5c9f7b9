-- What a node tells of an offer.
use Rattle.std.proofs.Common.{ℕ, List, Result, Ok, Err, inl, inr, sym, subst}
use Rattle.std.specs.declared.vec.Vec.{Vec}
use Rattle.std.specs.declared.alloc.Global.{Global}
use Rattle.hg_changeset.specs.declared.node.Node.{Node}
use Rattle.hg_replica.specs.State.{IsValid}
use Rattle.hg_message.specs.declared.scope.Scope.{Scope}
use Rattle.hg_message.specs.declared.refusal.OfferRefusal.{OfferRefusal}
use Rattle.hg_message.specs.declared.refusal.OfferRefusal.TheVariants as message
use Rattle.hg_message.specs.Value.{MessageValue}
use Rattle.hg_message.specs.Outgoing.{FindAnswer}
use Rattle.hg_view.specs.Kept.{KeptValue}
use Rattle.hg_live.specs.declared.answer.NotOffered.{NotOffered}
use Rattle.hg_live.specs.declared.answer.NotOffered.TheVariants as offer
use Rattle.hg_live.specs.NodeRefusals.{not_offered}
use Rattle.hg_live.specs.Looks.{StateOffers, IsAgainstOffering, Writes}

-- what was found is written, or not
pub found_told : (s : KeptValue) (common : List Node) (scope : Scope) (m : MessageValue)
    (r : Result (Vec ℕ Global) NotOffered) → IsValid s.replica →
    FindAnswer s.replica s.pins common scope (Ok m) → Writes m r → StateOffers s common scope r
found_told s common scope m (Ok bytes) valid found w = (valid, (m, found, w.0, w.1))
found_told s common scope m (Err offer.NotEntered) valid found w = absurd w
found_told s common scope m (Err (offer.Refused refusal)) valid found w =
    subst (IsAgainstOffering s common scope) (sym w.0) (found.0, (m, found.1, w.1))
found_told s common scope m (Err offer.NoMemory) valid found w = (found.0, inr (m, found.1, w))

-- nothing was found
pub refusal_told : (s : KeptValue) (common : List Node) (scope : Scope) (r : OfferRefusal) →
    FindAnswer s.replica s.pins common scope (Err r) → StateOffers s common scope (Err (not_offered r))
refusal_told s common scope (message.UnknownCommon node) h = h
refusal_told s common scope message.TooLarge h = absurd h
refusal_told s common scope message.NoMemory h = (h.0, inl h.1)
