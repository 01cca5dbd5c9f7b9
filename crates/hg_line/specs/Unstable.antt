-- What is unstable at a node, and what a line changes of it.
use Rattle.std.specs.Prelude.{◌↔◌, Contains}
use Rattle.hg_changeset.specs.declared.node.Node.{Node}
use Rattle.hg_replica.specs.Content.{Content}
use Rattle.hg_replica.specs.Evolution.{IsOrphan, IsPhaseDivergent}
use Rattle.hg_instab.specs.Instabilities.{IsContentDivergent}
use Rattle.hg_trial.specs.Moved.{IsMoved}
use Rattle.hg_line.specs.declared.unstable.UnstableChange.{UnstableChange}
use Rattle.hg_line.specs.declared.unstable.Unstable.{Unstable}

-- each set has exactly the changesets of its kind
pub record AreUnstable (f : Content) (unstable : Unstable) : Type 0 where
  pub orphan : (n : Node) → Contains unstable.orphan.keys n ↔ IsOrphan f n
  pub phase_divergent : (n : Node) → Contains unstable.phase_divergent.keys n ↔ IsPhaseDivergent f n
  pub content_divergent : (n : Node) → Contains unstable.content_divergent.keys n ↔ IsContentDivergent f n

-- what came is unstable in the second content and not in the first, what went is so in the first and not in the second,
-- and that is all of either
pub record IsUnstableChange (f g : Content) (change : UnstableChange) : Type 0 where
  pub orphan : IsMoved (IsOrphan f) (IsOrphan g) change.orphan
  pub phase_divergent : IsMoved (IsPhaseDivergent f) (IsPhaseDivergent g) change.phase_divergent
  pub content_divergent : IsMoved (IsContentDivergent f) (IsContentDivergent g) change.content_divergent
