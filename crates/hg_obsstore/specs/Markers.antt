-- A store's markers, and the places of those that are so.
use Rattle.std.specs.Prelude.{◌≡◌, ◌⊎◌, ℕ, List, [], ◌∷◌, Some, slice_get, AllPairs, ◌≢◌, Contains}
use Rattle.std.specs.List.{IsDistinct}
use Rattle.hg_changeset.specs.declared.node.Node.{Node}
use Rattle.hg_marker.specs.Fields.{Fields}
use Rattle.hg_marker.specs.Parents.{recorded_parents}
use Rattle.hg_marker.specs.Same.{same_fields}
use Rattle.hg_obsstore.specs.Places.{ListsAll}

-- no two markers are equal, by the test of their fields
abbrev pub AllDistinct : List Fields → Type 0
AllDistinct markers = IsDistinct same_fields markers

-- no two markers are equal
abbrev pub AreDifferent : List Fields → Type 0
AreDifferent markers = AllPairs (λ m n. m ≢ n) markers

-- the marker at the place is so
abbrev pub IsAt : (Fields → Type 0) → List Fields → ℕ → Type 0
IsAt P markers place = (m : Fields) × (slice_get markers place ≡ Some m) × P m

-- the places of the markers that are so, each once, ascending
abbrev pub ArePlaces : (Fields → Type 0) → List Fields → List ℕ → Type 0
ArePlaces P markers places = ListsAll (IsAt P markers) places

-- the nodes under which a marker stands in each index
abbrev pub predecessors : Fields → List Node
predecessors m = m.predecessor ∷ []

abbrev pub successors : Fields → List Node
successors m = m.successors

-- the marker names the node: as its predecessor, as one of its successors, or as a recorded parent
abbrev pub Names : Fields → Node → Type 0
Names m n = (m.predecessor ≡ n) ⊎ (Contains m.successors n ⊎ Contains (recorded_parents m) n)

-- one of the markers names the node
abbrev pub IsNamed : List Fields → Node → Type 0
IsNamed markers n = (m : Fields) × Contains markers m × Names m n
