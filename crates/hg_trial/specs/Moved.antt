-- What came to the kinds of changesets, and what went from them.
use Rattle.std.specs.Prelude.{◌↔◌, List, Contains}
use Rattle.hg_changeset.specs.declared.node.Node.{Node}
use Rattle.hg_replica.specs.Content.{Content}
use Rattle.hg_replica.specs.Evolution.{IsObsolete, IsOrphan, IsSuspended, IsExtinct, IsPhaseDivergent}
use Rattle.hg_instab.specs.Instabilities.{IsContentDivergent}
use Rattle.hg_trial.specs.declared.moved.Moved.{Moved}
use Rattle.hg_trial.specs.declared.turned.Turned.{Turned}

-- what came is of the second kind and not of the first, and what went is of the first and not of the second; and it is
-- all of that
pub record IsMoved (P Q : Node → Type 0) (moved : Moved) : Type 0 where
  pub came : (n : Node) → Contains moved.came.keys n ↔ (Q n × ¬ (P n))
  pub went : (n : Node) → Contains moved.went.keys n ↔ (P n × ¬ (Q n))

-- the same of two lists
abbrev pub IsMovedBetween : List Node → List Node → Moved → Type 0
IsMovedBetween before after moved = IsMoved (Contains before) (Contains after) moved

-- what came to each kind and went from it, from one content to another
pub record AreTurned (f g : Content) (turned : Turned) : Type 0 where
  pub obsolete : IsMoved (IsObsolete f) (IsObsolete g) turned.obsolete
  pub orphan : IsMoved (IsOrphan f) (IsOrphan g) turned.orphan
  pub suspended : IsMoved (IsSuspended f) (IsSuspended g) turned.suspended
  pub extinct : IsMoved (IsExtinct f) (IsExtinct g) turned.extinct
  pub phase_divergent : IsMoved (IsPhaseDivergent f) (IsPhaseDivergent g) turned.phase_divergent
  pub content_divergent : IsMoved (IsContentDivergent f) (IsContentDivergent g) turned.content_divergent
