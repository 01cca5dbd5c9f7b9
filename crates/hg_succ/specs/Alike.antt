-- What two contents say alike of some ids.
use Rattle.std.specs.Prelude.{◌↔◌, Contains}
use Rattle.hg_changeset.specs.declared.node.Node.{Node}
use Rattle.hg_marker.specs.Fields.{Fields}
use Rattle.hg_history.specs.Content.{IsHeld}
use Rattle.hg_replica.specs.Content.{Content}
use Rattle.hg_replica.specs.Evolution.{IsMarker}

-- the contents are alike on the ids of which P holds: both hold such an id or neither does, the same markers rewrote
-- it, and P holds of what these rewrote it to
pub record AreAlikeOn (P : Node → Type 0) (f g : Content) : Type 0 where
  pub held : (n : Node) → P n → IsHeld f.0 n ↔ IsHeld g.0 n
  pub markers : (m : Fields) → P m.predecessor → IsMarker f m ↔ IsMarker g m
  pub closed : (m : Fields) (n : Node) → P m.predecessor → IsMarker f m → Contains m.successors n → P n
