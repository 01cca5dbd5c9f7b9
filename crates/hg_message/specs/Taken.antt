-- What another replica holds once it has taken an offer in.
use Rattle.std.specs.Prelude.{List}
use Rattle.hg_changeset.specs.declared.node.Node.{Node}
use Rattle.hg_marker.specs.Fields.{Fields}
use Rattle.hg_history.specs.Content.{IsBelowAt, AgreeAt}
use Rattle.hg_replica.specs.Content.{Content}
use Rattle.hg_replica.specs.Evolution.{IsMarker}
use Rattle.hg_message.specs.declared.scope.Scope.{Scope}
use Rattle.hg_message.specs.Offer.{IsNamed, IsNamedMarker}

-- where both hold a changeset under an id, it is one
abbrev pub DontCollide : Content → Content → Type 0
DontCollide f g = (n : Node) → AgreeAt (f.0 n) (g.0 n)

-- g holds all that the scope names of f, at phases no higher, and the markers that it names
pub record HoldsNamed (f : Content) (pins : List Node) (scope : Scope) (g : Content) : Type 0 where
  pub changesets : (n : Node) → IsNamed f pins scope n → IsBelowAt (f.0 n) (g.0 n)
  pub markers : (k : Fields) → IsNamedMarker f pins scope k → IsMarker g k
