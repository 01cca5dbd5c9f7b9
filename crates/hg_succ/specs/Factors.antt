-- How many unions are to be formed.
use Rattle.std.specs.Prelude.{◌≡◌, ◌⊎◌, ◌<◌, ◌≤◌, ◌∷◌, [], ℕ, List, max, sum, map, length, Contains, Option, Some, None}
use Rattle.std.specs.Prelude.{Bool, not, nat_lt, filter}
use Rattle.std.specs.List.{list_any}
use Rattle.hg_changeset.specs.declared.node.Node.{Node}
use Rattle.hg_marker.specs.Fields.{Fields}
use Rattle.hg_succ.specs.declared.families.Solved.{Solved}
use Rattle.hg_succ.specs.declared.families.Table.{Table}
use Rattle.hg_succ.specs.Successors.{ways}
use Rattle.hg_succ.specs.Numbered.{successors_at}
use Rattle.hg_succ.specs.Cover.{Known, NoneOverfull, SomeOverfull, answer_at, known_by, count_of}
use Rattle.hg_succ.specs.Cover.{count_in, entry}
use Rattle.hg_succ.specs.Cover.Known.{are_sets, counted, overfull}
use Rattle.hg_succ.specs.Unions.{counts}
use Rattle.hg_succ.specs.Limits.{union_limit}

-- the number of the sets, or 1 where there are none
abbrev pub factor_in : Option Known → Option ℕ
factor_in (Some (are_sets family)) = Some (max (length family) 1)
factor_in (Some (counted count)) = Some (max count 1)
factor_in (Some overfull) = None
factor_in None = Some 1

-- the nodes' sets give so many unions, 4,096 at most, and none of them is overfull
pub record HasWays (table : Table) (nodes : List Node) (w : ℕ) : Type 0 where
  pub ways : w ≡ ways (counts table nodes)
  pub few : w ≤ union_limit
  pub full : NoneOverfull table nodes

abbrev pub HasManyWays : Table → List Node → Type 0
HasManyWays table nodes = SomeOverfull table nodes ⊎ (union_limit < ways (counts table nodes))

-- how many unions the markers at these places give
abbrev pub ways_at : Table → List Fields → List ℕ → List ℕ
ways_at table markers places = map (λ place. ways (counts table (successors_at markers place))) places

-- a successor of a marker at one of these places is overfull, or they give too many unions
abbrev pub many_at : Table → List Fields → List ℕ → Type 0
many_at table markers places = ((place : ℕ) × Contains places place × SomeOverfull table (successors_at markers place))
    ⊎ (union_limit < sum (ways_at table markers places))

abbrev pub few_at : Table → List Fields → List ℕ → Type 0
few_at table markers places = ((place : ℕ) → Contains places place → NoneOverfull table (successors_at markers place))
    × (sum (ways_at table markers places) ≤ union_limit)

-- the markers at these places give so many unions, 4,096 at most, and none of their successors is overfull
pub record AllWays (table : Table) (markers : List Fields) (places : List ℕ) (w : ℕ) : Type 0 where
  pub few : few_at table markers places
  pub ways : w ≡ sum (ways_at table markers places)

-- whether none of the nodes has sets
abbrev pub have_none : Table → List Node → Bool
have_none table nodes = not (list_any (λ n. nat_lt 0 (count_in (entry table n))) nodes)

-- how many of the markers at these places give the empty union
abbrev pub empties_at : Table → List Fields → List ℕ → ℕ
empties_at table markers places = length (filter (λ place. have_none table (successors_at markers place)) places)

-- not more sets than ways are allowed
abbrev pub IsInLimit : Known → Type 0
IsInLimit known = count_of known ≤ union_limit

-- one place is given, and the marker there has x as its one successor
abbrev pub IsOnlySuccessor : List Fields → List ℕ → Node → Type 0
IsOnlySuccessor markers places x = (place : ℕ) × (places ≡ place ∷ []) × (successors_at markers place ≡ x ∷ [])

-- what is known of the only successor, whose number is in the row
pub record IsShared (table : Table) (markers : List Fields) (places row : List ℕ) (solved : Solved) : Type 0 where
  pub only : (x : Node) × IsOnlySuccessor markers places x
  pub answer : (number : ℕ) × Contains row number × (answer_at table.answers.items number ≡ Some solved)
  pub few : IsInLimit (known_by table.families.items solved)
