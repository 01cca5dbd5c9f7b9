-- What the sweep over marks does.
use Rattle.std.specs.Prelude.{◌≡◌, ℕ, Bool, true, List, length, slice_get, ◌↔◌, ◌⊎◌, ◌<◌, Some}
use Rattle.hg_graph.specs.declared.graph.ParentPlaces.{ParentPlaces}
use Rattle.hg_discovery.specs.declared.finding.Finding.{Finding}
use Rattle.hg_discovery.specs.Under.{IsParentAt}
use Rattle.hg_discovery.specs.Search.{Is}

-- the place is marked
abbrev pub IsMarked : List Bool → ℕ → Type 0
IsMarked marks k = slice_get marks k ≡ Some true

-- the marks are those of the changesets that have a child that is decided so
pub record AreCovered (ps : List ParentPlaces) (ds : List Finding) (d : Finding) (marks : List Bool) : Type 0 where
  pub len : length marks ≡ length ds
  pub each : (k : ℕ) → k < length ds → IsMarked marks k ↔ ((j : ℕ) × IsParentAt ps j k × Is ds d j)

-- the places of which P holds are marked too
pub record MarksPlace (P : ℕ → Type 0) (old new : List Bool) : Type 0 where
  pub len : length new ≡ length old
  pub each : (k : ℕ) → k < length old → IsMarked new k ↔ (IsMarked old k ⊎ P k)
