-- Links between places: where the parents of each changeset stand, and where its children do.
use Rattle.std.specs.Prelude.{◌≡◌, ◌≢◌, ℕ, ◌<◌, ◌-◌, List, [], ◌∷◌, ◌++◌, length, take, map, get_or, slice_get}
use Rattle.std.specs.Prelude.{slice_set, ◌↔◌, ◌⊎◌, Option, None, Some, Contains}
use Rattle.std.specs.List.Sorted.{IsStrictlyIncreasing}
use Rattle.smallvec.specs.SmallVec.{SmallVec}
use Rattle.hg_graph.specs.declared.graph.ParentPlaces.{ParentPlaces}

-- k is one of the two places
abbrev pub IsOneOf : ParentPlaces → ℕ → Type 0
IsOneOf places k = (places.first ≡ Some k) ⊎ (places.second ≡ Some k)

-- a changeset at j may have parents at these places: they come first, and differ
pub record IsLinkable (j : ℕ) (places : ParentPlaces) : Type 0 where
  pub before : (k : ℕ) → IsOneOf places k → k < j
  pub apart : (k : ℕ) → places.first ≡ Some k → places.second ≢ Some k

-- a child of the changeset at k stands at j
abbrev pub IsChildPlace : List ParentPlaces → ℕ → ℕ → Type 0
IsChildPlace parents k j = (places : ParentPlaces) × (slice_get parents j ≡ Some places) × IsOneOf places k

-- exactly the places of the children of the changeset at k, each once, ascending
pub record AreChildPlaces (parents : List ParentPlaces) (k : ℕ) (places : List ℕ) : Type 0 where
  pub ascending : IsStrictlyIncreasing places
  pub exact : (j : ℕ) → Contains places j ↔ IsChildPlace parents k j

-- for each changeset the places of its children
pub record AreChildren (parents : List ParentPlaces) (children : List (List ℕ)) : Type 0 where
  pub len : length children ≡ length parents
  pub linkable : (j : ℕ) (places : ParentPlaces) → slice_get parents j ≡ Some places → IsLinkable j places
  pub each : (k : ℕ) (places : List ℕ) → slice_get children k ≡ Some places → AreChildPlaces parents k places

-- the lists of vectors
abbrev pub lists_of : List (SmallVec ℕ) → List (List ℕ)
lists_of vectors = map (λ v. v.items) vectors

-- one more at the end
abbrev pub put_last : ℕ → List ℕ → List ℕ
put_last k places = places ++ k ∷ []

-- all but the last
abbrev pub drop_last : List ℕ → List ℕ
drop_last places = take (length places - 1) places

-- the lists with another one at the place, where there is one
abbrev pub changed_at : Option ℕ → (List ℕ → List ℕ) → List (List ℕ) → List (List ℕ)
changed_at None change lists = lists
changed_at (Some k) change lists = slice_set lists k (change (get_or lists k []))
