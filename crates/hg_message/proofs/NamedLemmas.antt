-- What a scope names: nothing secret, and with each changeset its ancestors.
use Rattle.hg_changeset.specs.declared.node.Node.{Node}
use Rattle.hg_phases.specs.declared.phase.Phase.TheVariants.{Secret}
use Rattle.hg_marker.specs.Fields.{Fields}
use Rattle.hg_history.specs.Content.{Leads}
use Rattle.hg_relevant.specs.Relevant.{IsRelevant}
use Rattle.hg_relevant.specs.Relevant.IsRelevant.{direct, further}
use Rattle.hg_replica.specs.Content.{Content, IsValidContent}
use Rattle.hg_replica.specs.Evolution.{HasPhase, IsMarker}
use Rattle.std.specs.Prelude.{List}
use Rattle.hg_view.proofs.PinLemmas.{served_under-above}
use Rattle.hg_view.proofs.ShareLemmas.{shared-above}
use Rattle.hg_message.specs.declared.scope.Scope.{Scope}
use Rattle.hg_message.specs.declared.scope.Scope.TheVariants.{Served, Whole}
use Rattle.hg_message.specs.Offer.{IsNamed, IsNamedMarker}

relevant-held : (H : Fields → Type 0) (N : Node → Type 0) (m : Fields) → IsRelevant H N m → H m
relevant-held H N m (direct one h touches) = h
relevant-held H N m (further r h touches) = h

module _ (f : Content) (pins : List Node) where
  pub named-not_secret : (scope : Scope) (n : Node) → IsNamed f pins scope n → ¬ (HasPhase f n Secret)
  named-not_secret Served n h = h.1
  named-not_secret Whole n h = h.1

  pub named-above : (scope : Scope) (a n : Node) → IsValidContent f → IsNamed f pins scope n → Leads f.0 a n
      → IsNamed f pins scope a
  named-above Served a n valid h up = served_under-above f pins a n valid h up
  named-above Whole a n valid h up = shared-above f a n valid h up

  pub named_marker-held : (scope : Scope) (m : Fields) → IsNamedMarker f pins scope m → IsMarker f m
  named_marker-held Served m h = relevant-held (IsMarker f) _ m h
  named_marker-held Whole m h = h
