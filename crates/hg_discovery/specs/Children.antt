-- The children of each changeset.
use Rattle.std.specs.Prelude.{◌≡◌, ◌↔◌, ℕ, List, length, slice_get, ◌≤◌, ◌<◌, Some}
use Rattle.hg_graph.specs.declared.graph.ParentPlaces.{ParentPlaces}
use Rattle.hg_discovery.specs.declared.children.Stretch.{Stretch}
use Rattle.hg_discovery.specs.Under.{IsParentAt}

-- k stands in the list, between these indexes
abbrev pub Stands : List ℕ → ℕ → ℕ → ℕ → Type 0
Stands places from to k = (i : ℕ) × (from ≤ i) × (i < to) × (slice_get places i ≡ Some k)

-- the stretch of each changeset has its children
pub record AreChildren (ps : List ParentPlaces) (places : List ℕ) (stretches : List Stretch) : Type 0 where
  pub len : length stretches ≡ length ps
  pub within : (k : ℕ) (s : Stretch) → slice_get stretches k ≡ Some s → s.to ≤ length places
  pub exact : (k : ℕ) (s : Stretch) (j : ℕ) → slice_get stretches k ≡ Some s
      → Stands places s.from s.to j ↔ IsParentAt ps j k
