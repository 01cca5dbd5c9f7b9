-- Flags of places, and how they move.
use Rattle.std.specs.Prelude.{◌≡◌, ◌≤◌, ◌↔◌, ◌⊎◌, ℕ, List, Bool, true, Some, length, slice_get}
use Rattle.hg_changeset.specs.declared.node.Node.{Node}
use Rattle.hg_changeset.specs.Contents.{Contents}
use Rattle.hg_graph.specs.Places.{IsParentPlace, IsPlaceOfOne}

-- the place is flagged
abbrev pub IsUp : List Bool → ℕ → Type 0
IsUp flags k = slice_get flags k ≡ Some true

-- a flag for each place: whether P holds of it
pub record AreFlags (n : ℕ) (P : ℕ → Type 0) (flags : List Bool) : Type 0 where
  pub len : length flags ≡ n
  pub exact : (k : ℕ) → IsUp flags k ↔ P k

-- the places of which S holds are flagged where Q holds of them; the other flags stayed
pub record AreRecomputed (S Q : ℕ → Type 0) (old new : List Bool) : Type 0 where
  pub len : length new ≡ length old
  pub each : (k : ℕ) → (S k × (IsUp new k ↔ Q k)) ⊎ (¬ (S k) × (slice_get new k ≡ slice_get old k))

-- the places of which N holds were taken out
pub record AreTakenOut (N : ℕ → Type 0) (old new : List Bool) : Type 0 where
  pub len : length new ≡ length old
  pub each : (k : ℕ) → IsUp new k ↔ (IsUp old k × ¬ (N k))

-- a parent of a changeset at a place of which S and Q hold stands at this place
abbrev pub IsParentOfOne : List Contents → (ℕ → Type 0) → (ℕ → Type 0) → ℕ → Type 0
IsParentOfOne cs S Q k = (j : ℕ) × S j × Q j × IsParentPlace cs j k

-- the place isn't before the first one, or one of the nodes stands there
abbrev pub IsTouched : List Contents → ℕ → List Node → ℕ → Type 0
IsTouched cs first nodes k = (first ≤ k) ⊎ IsPlaceOfOne cs nodes k

-- the places of which S holds were recomputed, and then the parents of those of them of which Q holds were taken out
pub record AreUpdated (cs : List Contents) (S Q : ℕ → Type 0) (old new : List Bool) : Type 0 where
  pub mid : List Bool
  pub recomputed : AreRecomputed S Q old mid
  pub taken : AreTakenOut (IsParentOfOne cs S Q) mid new
