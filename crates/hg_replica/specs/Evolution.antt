-- Obsolescence and what follows from it, over what a replica contains: which changesets are obsolete, which are
-- unstable and why, and which are in view.
use Rattle.std.specs.Prelude.{◌≡◌, ◌≢◌, ◌%◌, true, Some, Contains}
use Rattle.hg_changeset.specs.declared.node.Node.{Node}
use Rattle.hg_phases.specs.declared.phase.Phase.{Phase}
use Rattle.hg_phases.specs.declared.phase.Phase.TheVariants.{Public, Secret}
use Rattle.hg_phases.specs.State.{Held}
use Rattle.hg_marker.specs.Fields.{Fields}
use Rattle.hg_history.specs.Content.{IsHeld, Leads}
use Rattle.hg_replica.specs.Content.{Content}

-- held with this phase
abbrev pub HasPhase : Content → Node → Phase → Type 0
HasPhase f n k = (h : Held) × (f.0 n ≡ Some h) × (h.phase ≡ k)

-- held and not public
abbrev pub IsMutable : Content → Node → Type 0
IsMutable f n = (h : Held) × (f.0 n ≡ Some h) × (h.phase ≢ Public)

-- the marker is held
abbrev pub IsMarker : Content → Fields → Type 0
IsMarker f m = f.1 m ≡ true

-- the predecessor of some marker
abbrev pub IsPredecessor : Content → Node → Type 0
IsPredecessor f n = (m : Fields) × IsMarker f m × (m.predecessor ≡ n)

-- d is held, and n is d or an ancestor of it
abbrev pub IsUnder : Content → Node → Node → Type 0
IsUnder f n d = IsHeld f.0 d × Leads f.0 n d

-- ---- obsolete, and unstable

-- not public, and the predecessor of some marker
abbrev pub IsObsolete : Content → Node → Type 0
IsObsolete f n = IsMutable f n × IsPredecessor f n

-- neither public nor obsolete
abbrev pub IsCurrent : Content → Node → Type 0
IsCurrent f n = IsMutable f n × ¬ (IsObsolete f n)

-- neither public nor obsolete, with an obsolete ancestor
abbrev pub IsOrphan : Content → Node → Type 0
IsOrphan f n = IsCurrent f n × ((a : Node) × IsUnder f a n × IsObsolete f a)

-- obsolete, with a descendant that is an orphan
abbrev pub IsSuspended : Content → Node → Type 0
IsSuspended f n = IsObsolete f n × ((d : Node) × IsUnder f n d × IsOrphan f d)

-- obsolete and not suspended
abbrev pub IsExtinct : Content → Node → Type 0
IsExtinct f n = IsObsolete f n × ¬ (IsSuspended f n)

-- one or more steps lead from n to p, each from a successor of a marker of this kind to its predecessor
pub data Precedes (f : Content) (Kind : Fields → Type 0) (p : Node) : Node → Type 0 where
  step : {n : Node} {m : Fields} → IsMarker f m → Kind m → Contains m.successors n → m.predecessor ≡ p →
      Precedes f Kind p n
  further : {n : Node} {m : Fields} → IsMarker f m → Kind m → Contains m.successors n →
      Precedes f Kind p m.predecessor → Precedes f Kind p n

-- the lowest bit of the flags is set: the successors were written in answer to a predecessor that had become public
abbrev pub IsBumpedFix : Fields → Type 0
IsBumpedFix m = m.flags % 2 ≡ 1

-- neither public nor obsolete, though a public changeset precedes it, over markers that aren't the answer to that
abbrev pub IsPhaseDivergent : Content → Node → Type 0
IsPhaseDivergent f n = IsCurrent f n × ((p : Node) × HasPhase f p Public × Precedes f (λ m. ¬ (IsBumpedFix m)) p n)

-- ---- views

-- held, and not obsolete: it stays in view, and keeps its ancestors there
abbrev pub IsRevealed : Content → Node → Type 0
IsRevealed f n = IsHeld f.0 n × ¬ (IsObsolete f n)

-- it, or a descendant of it, is revealed
abbrev pub IsVisible : Content → Node → Type 0
IsVisible f n = (d : Node) × IsRevealed f d × Leads f.0 n d

-- held, and not visible
abbrev pub IsHidden : Content → Node → Type 0
IsHidden f n = IsHeld f.0 n × ¬ (IsVisible f n)

-- visible, and not secret: what others are given
abbrev pub IsServed : Content → Node → Type 0
IsServed f n = IsVisible f n × ¬ (HasPhase f n Secret)
