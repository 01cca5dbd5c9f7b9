-- How many pairs of peers agree.
use Rattle.std.specs.Prelude.{◌≡◌, ◌≤◌, ◌⊎◌, ℕ, ◌+◌, List, [], ◌∷◌, length}
use Rattle.hg_replica.specs.Content.{content_of, ContentBelow}
use Rattle.hg_view.specs.Kept.{KeptValue}

-- each holds what the other holds
abbrev pub Agree : KeptValue → KeptValue → Type 0
Agree a b =
    ContentBelow (content_of a.replica) (content_of b.replica)
    × ContentBelow (content_of b.replica) (content_of a.replica)

-- of so many in the list it is so that they agree with a
abbrev pub AgreeWith : KeptValue → List KeptValue → ℕ → Type 0
AgreeWith a [] n = n ≡ 0
AgreeWith a (b ∷ bs) n =
    (Agree a b × ((rest : ℕ) × AgreeWith a bs rest × (n ≡ 1 + rest))) ⊎ ((¬ (Agree a b)) × AgreeWith a bs n)

-- so many pairs agree, each of one in the list and one behind it
abbrev pub PairsAgree : List KeptValue → ℕ → Type 0
PairsAgree [] n = n ≡ 0
PairsAgree (a ∷ behind) n =
    (first : ℕ) × (rest : ℕ) × AgreeWith a behind first × PairsAgree behind rest × (n ≡ first + rest)

-- so many pairs agree of peers of which there are so many at most
abbrev pub IsOfPairs : ℕ → ℕ → Type 0
IsOfPairs most n = (peers : List KeptValue) × (length peers ≤ most) × PairsAgree peers n
