-- What is noted of the peers of a fleet: how far each two of them were compared.
use Rattle.std.specs.Prelude.{◌≡◌, ◌⊎◌, ℕ, Some, slice_get}
use Rattle.std.specs.BTreeMap.{BTreeMap, Updates, get}
use Rattle.std.specs.Ordering.{nat_cmp, ordering_then}
use Rattle.std.specs.declared.cmp.Ordering.{Ordering}
use Rattle.hg_view.specs.Kept.{KeptValue}
use Rattle.hg_discovery.specs.declared.compared.Compared.{Compared}
use Rattle.hg_discovery.specs.Compared.{WereCompared}
use Rattle.hg_world.specs.Runs.{Snapshot}

-- the places of two peers: of the one that asks, and of the one that it asks
abbrev pub Pair : Type 0
Pair = ℕ × ℕ

abbrev pub pair_cmp : Pair → Pair → Ordering
pair_cmp p q = ordering_then (nat_cmp p.0 q.0) (nat_cmp p.1 q.1)

-- how far two peers were compared, by their places
abbrev pub Pairs : Type 0
Pairs = BTreeMap Pair Compared

-- what is noted at the places of these two holds of them
abbrev pub IsTrueOf : Pairs → Pair → KeptValue → KeptValue → Type 0
IsTrueOf pairs pair ours theirs = (x : Compared) → get pair_cmp pairs pair ≡ Some x → WereCompared ours theirs x

-- what is noted of any two peers holds of them
abbrev pub AreTruePairs : Snapshot KeptValue → Pairs → Type 0
AreTruePairs w pairs = (pair : Pair) (ours theirs : KeptValue) → slice_get w.nodes pair.0 ≡ Some ours
    → slice_get w.nodes pair.1 ≡ Some theirs → IsTrueOf pairs pair ours theirs

-- the notes stay, or have at these places what holds of these two
abbrev pub IsNoted : Pairs → Pair → KeptValue → KeptValue → Pairs → Type 0
IsNoted before pair ours theirs after =
    (after.entries ≡ before.entries)
    ⊎ ((x : Compared) × WereCompared ours theirs x × Updates pair_cmp before after pair (Some x))
