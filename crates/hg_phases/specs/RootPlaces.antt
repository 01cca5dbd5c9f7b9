-- The places of the roots, and what is kept of a graph's phases with them.
use Rattle.std.specs.Prelude.{◌≡◌, ◌≢◌, ℕ, List, take, length, slice_get, Bool, true, Some, Contains, ◌↔◌, ◌⊎◌}
use Rattle.hg_changeset.specs.Contents.{Contents}
use Rattle.hg_graph.specs.Places.{IsParentPlace}
use Rattle.hg_phases.specs.declared.phase.Phase.{Phase}
use Rattle.hg_phases.specs.declared.phase.Phase.TheVariants.{Public}
use Rattle.hg_phases.specs.declared.lowered.LoweredPlace.{LoweredPlace}
use Rattle.hg_phases.specs.declared.phase_roots.PhaseRoots.{PhaseRoots}
use Rattle.hg_phases.specs.Kept.{phases_at, phases_before}

-- a parent of the changeset at the place has the phase
abbrev pub HasParentIn : List Contents → List Phase → ℕ → Phase → Type 0
HasParentIn cs ks place phase = (p : ℕ) × IsParentPlace cs place p × (slice_get ks p ≡ Some phase)

-- the changeset at the place is a root: draft or secret, and none of its parents has its phase
abbrev pub IsRootPlace : List Contents → List Phase → ℕ → Type 0
IsRootPlace cs ks p = (k : Phase) × (slice_get ks p ≡ Some k) × (k ≢ Public) × ¬ (HasParentIn cs ks p k)

-- the place is flagged exactly where a root stands there
abbrev pub IsUpToDate : List Contents → List Phase → List Bool → ℕ → Type 0
IsUpToDate cs ks flags p = (slice_get flags p ≡ Some true) ↔ IsRootPlace cs ks p

-- there is a flag for each place, and exactly those of the roots are up
pub record AreRootPlaces (cs : List Contents) (ks : List Phase) (flags : List Bool) : Type 0 where
  pub len : length flags ≡ length cs
  pub up_to_date : (p : ℕ) → IsUpToDate cs ks flags p

-- the flags of the places of which P holds were recomputed; others stayed, unless they are up to date as well
pub record AreRecomputed (cs : List Contents) (ks : List Phase) (P : ℕ → Type 0) (old new : List Bool) : Type 0 where
  pub len : length new ≡ length old
  pub each : (p : ℕ) → IsUpToDate cs ks new p ⊎ (¬ (P p) × (slice_get new p ≡ slice_get old p))

-- the place, or that of a child of the changeset there
abbrev pub IsPlaceOrChild : List Contents → ℕ → ℕ → Type 0
IsPlaceOrChild cs place p = (place ≡ p) ⊎ IsParentPlace cs p place

-- what was logged stands at the place, or is a parent of what stands there
abbrev pub IsTouched : List Contents → List LoweredPlace → ℕ → Type 0
IsTouched cs log p = (e : LoweredPlace) × Contains log e × IsPlaceOrChild cs e.place p

-- the roots that are kept are those of the changesets before a place, before what was logged went down
abbrev pub AreRootsBefore : List Contents → PhaseRoots → List LoweredPlace → ℕ → Type 0
AreRootsBefore cs kept log before =
    AreRootPlaces (take before cs) (take before (phases_before cs kept.phases log)) kept.roots

-- a phase for each changeset, and exactly the roots
pub record ArePhasesAndRoots (cs : List Contents) (kept : PhaseRoots) : Type 0 where
  pub len : length (phases_at cs kept.phases) ≡ length cs
  pub roots : AreRootPlaces cs (phases_at cs kept.phases) kept.roots
