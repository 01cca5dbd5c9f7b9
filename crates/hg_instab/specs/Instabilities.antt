-- The instabilities of a content.
use Rattle.std.specs.Prelude.{◌↔◌, List, Contains}
use Rattle.hg_changeset.specs.declared.node.Node.{Node}
use Rattle.hg_replica.specs.Content.{Content}
use Rattle.hg_replica.specs.Evolution.{IsObsolete, IsCurrent, IsOrphan, IsSuspended, IsExtinct, IsPhaseDivergent}
use Rattle.hg_replica.specs.Evolution.{Precedes}
use Rattle.hg_succ.specs.Successors.{IsAny, HasSeveral}
use Rattle.hg_instab.specs.Near.{IsAfterPublic, AreNearForks}

-- neither public nor obsolete, though what precedes it, over any markers, has several successors sets or is overfull
abbrev pub IsContentDivergent : Content → Node → Type 0
IsContentDivergent f n = IsCurrent f n × ((p : Node) × HasSeveral f p × Precedes f IsAny p n)

-- the set of each kind, as it is kept, and beside them what a change is told by: the ids that come after something
-- public, and those near forks
pub record InstabilitySets : Type 0 where
  pub obsolete : List Node
  pub orphan : List Node
  pub suspended : List Node
  pub extinct : List Node
  pub phase_divergent : List Node
  pub content_divergent : List Node
  pub after_public : List Node
  pub near_forks : List Node

-- each set has exactly the changesets of its kind; so has that of the ids after something public, and that of those
-- near forks has what it is to have
pub record AreInstabilities (f : Content) (sets : InstabilitySets) : Type 0 where
  pub obsolete : (n : Node) → Contains sets.obsolete n ↔ IsObsolete f n
  pub orphan : (n : Node) → Contains sets.orphan n ↔ IsOrphan f n
  pub suspended : (n : Node) → Contains sets.suspended n ↔ IsSuspended f n
  pub extinct : (n : Node) → Contains sets.extinct n ↔ IsExtinct f n
  pub phase_divergent : (n : Node) → Contains sets.phase_divergent n ↔ IsPhaseDivergent f n
  pub content_divergent : (n : Node) → Contains sets.content_divergent n ↔ IsContentDivergent f n
  pub after_public : (n : Node) → Contains sets.after_public n ↔ IsAfterPublic f n
  pub near_forks : AreNearForks f (Contains sets.near_forks)
