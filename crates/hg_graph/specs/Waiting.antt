-- What waits to be visited by a walk.
use Rattle.std.specs.Prelude.{ℕ, ◌<◌, ◌≤◌, ◌⊎◌, ◌≡◌, ◌↔◌, List, Option, Contains, MatchOption}
use Rattle.hg_graph.specs.Places.{IsParentPlace}
use Rattle.hg_changeset.specs.Contents.{Contents}

-- what waited waits, and each place of which P holds
abbrev pub Widens : (ℕ → Type 0) → List ℕ → List ℕ → Type 0
Widens P old new = (k : ℕ) → Contains new k ↔ (Contains old k ⊎ P k)

-- the place waited already, or a parent of the changeset that is visited stands there
abbrev pub Waits : List Contents → ℕ → List ℕ → ℕ → Type 0
Waits cs visited waiting k = Contains waiting k ⊎ IsParentPlace cs visited k

-- what waited is one place and the rest
abbrev pub IsOneOf : (ℕ → Type 0) → ℕ → List ℕ → Type 0
IsOneOf Waited place rest = (k : ℕ) → Waited k ↔ ((place ≡ k) ⊎ Contains rest k)

-- of what waited this is the first, and these are the others
abbrev pub IsFirst : (ℕ → Type 0) → List ℕ → ℕ → Type 0
IsFirst Waited rest place = IsOneOf Waited place rest × ((k : ℕ) → Contains rest k → place < k)

-- of what waited this is the last, and these are the others
abbrev pub IsLast : (ℕ → Type 0) → List ℕ → ℕ → Type 0
IsLast Waited rest place = IsOneOf Waited place rest × ((k : ℕ) → Contains rest k → k < place)

-- the first is taken, if any waited
abbrev pub TakesFirst : (ℕ → Type 0) → List ℕ → Option ℕ → Type 0
TakesFirst Waited rest taken = MatchOption taken ((k : ℕ) → ¬ (Waited k)) (IsFirst Waited rest)

-- the last is taken, if any waited
abbrev pub TakesLast : (ℕ → Type 0) → List ℕ → Option ℕ → Type 0
TakesLast Waited rest taken = MatchOption taken ((k : ℕ) → ¬ (Waited k)) (IsLast Waited rest)

-- the last is taken, if it is after `low`
abbrev pub TakesAfter : ℕ → List ℕ → List ℕ → Option ℕ → Type 0
TakesAfter low old new taken = MatchOption taken
    ((new ≡ old) × ((k : ℕ) → Contains old k → k ≤ low))
    (λ last. (low < last) × IsLast (Contains old) new last)
