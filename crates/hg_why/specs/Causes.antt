-- Why a changeset is unstable.
use Rattle.std.specs.Prelude.{◌≡◌, ◌≢◌, ◌⊎◌, ◌↔◌, Bool, true, false, List, map, Contains}
use Rattle.hg_changeset.specs.declared.node.Node.{Node}
use Rattle.hg_changeset.specs.Node.{null_node}
use Rattle.hg_phases.specs.declared.phase.Phase.TheVariants.{Public}
use Rattle.hg_replica.specs.Content.{Content}
use Rattle.hg_replica.specs.Evolution.{HasPhase, IsBumpedFix, IsCurrent, IsObsolete, IsOrphan, IsPhaseDivergent}
use Rattle.hg_replica.specs.Evolution.{Precedes}
use Rattle.hg_succ.specs.Answer.{AreSets}
use Rattle.hg_succ.specs.Successors.{HasSeveral, IsAny}
use Rattle.hg_instab.specs.Instabilities.{IsContentDivergent}
use Rattle.hg_instab.specs.Local.{IsParentOf}
use Rattle.hg_why.specs.declared.reason.Reason.{Reason}
use Rattle.hg_why.specs.declared.reason.Reason.TheVariants.{Orphan, PhaseDivergent, ContentDivergent}

-- what a changeset is unstable by: a parent, and whether that is obsolete; a public changeset that precedes it; or an
-- id that precedes it and has several successors sets or is overfull
pub data Cause : Type 0 where
  parent : Node → Bool → Cause
  public_before : Node → Cause
  several_before : Node → Cause

-- it is obsolete, or else an orphan
abbrev pub IsObsoleteOrOrphan : Content → Node → Bool → Type 0
IsObsoleteOrOrphan f p true = IsObsolete f p
IsObsoleteOrOrphan f p false = IsOrphan f p

-- the changeset is unstable by this
abbrev pub IsCause : Content → Node → Cause → Type 0
IsCause f n (parent p is_obsolete) = IsOrphan f n × IsParentOf f p n × IsObsoleteOrOrphan f p is_obsolete
IsCause f n (public_before p) = IsCurrent f n × HasPhase f p Public × Precedes f (λ m. ¬ (IsBumpedFix m)) p n
IsCause f n (several_before p) = IsCurrent f n × HasSeveral f p × Precedes f IsAny p n

-- what a reason says
abbrev pub cause_of : Reason → Cause
cause_of (Orphan p is_obsolete) = parent p is_obsolete
cause_of (PhaseDivergent p) = public_before p
cause_of (ContentDivergent p sets) = several_before p

-- the successors sets that a reason has are those of its id
abbrev pub HasItsSets : Content → Reason → Type 0
HasItsSets f (Orphan p is_obsolete) = Unit {0}
HasItsSets f (PhaseDivergent p) = Unit {0}
HasItsSets f (ContentDivergent p sets) = AreSets f p sets

-- one of the reasons says this
abbrev pub Tells : List Reason → Cause → Type 0
Tells reasons cause = Contains (map cause_of reasons) cause

-- the reasons say each cause, and nothing else. So there is a reason of a kind exactly where the changeset has that
-- instability
pub record AreReasons (f : Content) (n : Node) (reasons : List Reason) : Type 0 where
  pub exact : (cause : Cause) → Tells reasons cause ↔ IsCause f n cause
  pub sets : (reason : Reason) → Contains reasons reason → HasItsSets f reason
  pub orphan : IsOrphan f n ↔ ((p : Node) × (is_obsolete : Bool) × Tells reasons (parent p is_obsolete))
  pub phase_divergent : IsPhaseDivergent f n ↔ ((p : Node) × Tells reasons (public_before p))
  pub content_divergent : IsContentDivergent f n ↔ ((p : Node) × Tells reasons (several_before p))

-- ---- reasons that are added

-- the causes that are so were added, and no others; what was added has its sets
pub record Adds (f : Content) (P : Cause → Type 0) (old new : List Reason) : Type 0 where
  pub causes : (cause : Cause) → Tells new cause ↔ (Tells old cause ⊎ P cause)
  pub sets : (reason : Reason) → Contains new reason → Contains old reason ⊎ HasItsSets f reason

-- the changeset is unstable by this, which is a parent
abbrev pub IsByParent : Content → Node → Cause → Type 0
IsByParent f n cause =
    (p : Node) × (is_obsolete : Bool) × IsCause f n (parent p is_obsolete) × (parent p is_obsolete ≡ cause)

-- the cause is this one, if that is an id of a parent, for what is obsolete, or an orphan
abbrev pub IsByThis : Content → Node → Cause → Type 0
IsByThis f p cause =
    (is_obsolete : Bool) × (p ≢ null_node) × IsObsoleteOrOrphan f p is_obsolete × (parent p is_obsolete ≡ cause)

-- the cause is so made of an id that is so
abbrev pub IsByOne : (Node → Cause) → (Node → Type 0) → Cause → Type 0
IsByOne made P cause = (p : Node) × P p × (made p ≡ cause)
