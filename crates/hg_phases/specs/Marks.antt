-- The marks that opening works with.
use Rattle.std.specs.Prelude.{◌≡◌, ◌≤◌, ◌<◌, ℕ, List, length, slice_get, slice_set, Some, Contains, ◌⊎◌}
use Rattle.hg_changeset.specs.declared.node.Node.{Node}
use Rattle.hg_changeset.specs.Contents.{Contents}
use Rattle.hg_graph.specs.Places.{IsAt}
use Rattle.hg_phases.specs.declared.phase.Phase.{Phase}
use Rattle.hg_phases.specs.declared.phase.Phase.TheVariants.{Public}
use Rattle.hg_phases.specs.State.{rank}
use Rattle.hg_phases.specs.Roots.{IsHighest}

-- what may decide the mark of a place: public, and each listed root that stands there
abbrev pub IsMark : List Contents → List (Phase × Node) → ℕ → Phase → Type 0
IsMark cs roots i k = (k ≡ Public) ⊎ ((r : Phase × Node) × Contains roots r × IsAt cs r.1 i × (r.0 ≡ k))

-- each place is marked with the highest phase of a root there
pub record AreMarked (cs : List Contents) (roots : List (Phase × Node)) (marks : List Phase) : Type 0 where
  pub len : length marks ≡ length cs
  pub each : (i : ℕ) (k : Phase) → slice_get marks i ≡ Some k → IsHighest (IsMark cs roots i) k

-- the place was given the phase, if it had a lower one
abbrev pub IsRaised : ℕ → Phase → List Phase → List Phase → Type 0
IsRaised place phase old new =
    (had : Phase) × (slice_get old place ≡ Some had)
    × (((rank had < rank phase) × (new ≡ slice_set old place phase)) ⊎ ((rank phase ≤ rank had) × (new ≡ old)))

-- k is the higher of two phases
abbrev pub IsHigher : Phase → Phase → Phase → Type 0
IsHigher x y k = ((k ≡ x) ⊎ (k ≡ y)) × (rank x ≤ rank k) × (rank y ≤ rank k)
