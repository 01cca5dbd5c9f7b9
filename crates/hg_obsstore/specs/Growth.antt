-- How a store grows: what is new stands after what was held, in the order in which it came.
use Rattle.std.specs.Prelude.{◌≡◌, ◌≤◌, ◌<◌, ◌++◌, ◌∷◌, [], ℕ, List, Bool, length, Contains, if◌then◌else◌}
use Rattle.std.specs.List.{list_any}
use Rattle.hg_marker.specs.Fields.{Fields}
use Rattle.hg_marker.specs.Same.{same_fields}
use Rattle.hg_obsstore.specs.declared.store.Added.{Added}
use Rattle.hg_obsstore.specs.declared.store.Added.TheVariants.{New, Known}
use Rattle.hg_obsstore.specs.Places.{ListsAll}

-- whether a marker is among these
abbrev pub holds : List Fields → Fields → Bool
holds markers m = list_any (same_fields m) markers

-- the answer to `add` of m, and the markers after it
abbrev pub AddAnswer : List Fields → Fields → Added → List Fields → Type 0
AddAnswer markers m New after = ¬ Contains markers m × (after ≡ markers ++ m ∷ [])
AddAnswer markers m Known after = Contains markers m × (after ≡ markers)

-- the markers after m is added
abbrev pub with_marker : List Fields → Fields → List Fields
with_marker markers m = if holds markers m then markers else markers ++ m ∷ []

-- the markers of the second list that the first hasn't, each at its first standing, in their order
abbrev pub new_among : List Fields → List Fields → List Fields
new_among held [] = []
new_among held (m ∷ ms) = if holds held m then new_among held ms else m ∷ new_among (held ++ m ∷ []) ms

-- the markers that were held, and then the new ones of more
abbrev pub united : List Fields → List Fields → List Fields
united held more = held ++ new_among held more

-- what was held stands first as before
abbrev pub StartsWith : List Fields → List Fields → Type 0
StartsWith old new = (more : List Fields) × (new ≡ old ++ more)

-- exactly the places of new that are beyond those of old, each once, ascending
abbrev pub AreNewPlaces : List Fields → List Fields → List ℕ → Type 0
AreNewPlaces old new places = ListsAll (λ i. (length old ≤ i) × (i < length new)) places

-- what was held stands first as before, and the change tells the places of what stands after it
pub record Grows (old : List Fields) (change : List ℕ) (new : List Fields) : Type 0 where
  pub first : StartsWith old new
  pub places : AreNewPlaces old new change
