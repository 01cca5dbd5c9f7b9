-- What is told of a changeset by a look-up in a kept set.
use Rattle.std.proofs.Common.{◌≡◌, Bool, List, IsTrue, Contains, ◌↔◌, sym, subst}
use Rattle.hg_changeset.specs.declared.node.Node.{Node}

-- the set, which is kept as these nodes, was asked
pub asked : (set kept : List Node) (n : Node) (b : Bool) (P : Type 0) → IsTrue b ↔ Contains set n → set ≡ kept →
    Contains kept n ↔ P → IsTrue b ↔ P
asked set kept n b P told same so = (
  λ h. so.0 (subst (λ (l : List Node). Contains l n) same (told.0 h)),
  λ p. told.1 (subst (λ (l : List Node). Contains l n) (sym same) (so.1 p)),
)
