-- The unions that one set of each of several families give, and the largest of some sets.
use Rattle.std.specs.Prelude.{◌≡◌, ◌≢◌, ◌⊎◌, ◌==◌, ℕ, List, [], ◌∷◌, ◌++◌, map, length, Contains, Bool, not, ◌&&◌}
use Rattle.std.specs.Prelude.{nat_lt}
use Rattle.std.specs.List.{flat_map, list_any, list_all}
use Rattle.std.specs.List.Sorted.{IsStrictlySortedBy}
use Rattle.std.specs.Cmp.Lexicographic.{slice_cmp}
use Rattle.hg_changeset.specs.declared.node.Node.{Node}
use Rattle.hg_changeset.specs.Node.{node_cmp, node_eq}
use Rattle.hg_succ.specs.Successors.{AreWithin}
use Rattle.hg_succ.specs.Cover.{families, count_in, entry}
use Rattle.hg_succ.specs.declared.families.Table.{Table}

-- what one set of each family gives, families without sets being skipped
abbrev pub IsChoice : List (List (List Node)) → List Node → Type 0
IsChoice [] u = u ≡ []
IsChoice (f ∷ fs) u = ((f ≡ []) × IsChoice fs u)
    ⊎ ((set : List Node) × (rest : List Node) × Contains f set × IsChoice fs rest × (u ≡ set ++ rest))

-- the union of each of the first sets with each of the second
abbrev pub products : List (List Node) → List (List Node) → List (List Node)
products firsts seconds = flat_map (λ first. map (λ second. first ++ second) seconds) firsts

-- the unions with each set of a family, or as they are where it has none
abbrev pub with_sets : List (List Node) → List (List Node) → List (List Node)
with_sets [] unions = unions
with_sets (set ∷ sets) unions = products unions (set ∷ sets)

-- the same with one family after another
abbrev pub choices_on : List (List (List Node)) → List (List Node) → List (List Node)
choices_on [] unions = unions
choices_on (f ∷ fs) unions = choices_on fs (with_sets f unions)

-- the choices of one set of each of the nodes that have sets
abbrev pub choices : Table → List Node → List (List Node)
choices table ns = choices_on (map (families table) ns) ([] ∷ [])

-- how many sets each of the nodes has
abbrev pub counts : Table → List Node → List ℕ
counts table ns = map (λ n. count_in (entry table n)) ns

-- each is ascending
abbrev pub AreAscending : List (List Node) → Type 0
AreAscending sets = (set : List Node) → Contains sets set → IsStrictlySortedBy node_cmp set

-- whether each member is one of the other
abbrev pub is_within : List Node → List Node → Bool
is_within set other = list_all (λ x. list_any (λ y. node_eq y x) other) set

abbrev pub is_within_larger : List Node → List Node → Bool
is_within_larger set other = nat_lt (length set) (length other) && is_within set other

-- not empty, and within no larger one
abbrev pub is_largest : List (List Node) → List Node → Bool
is_largest sets set = not (length set == 0) && not (list_any (is_within_larger set) sets)

-- the set has exactly the members of the list, ascending
pub record IsSetOf (xs set : List Node) : Type 0 where
  pub ascending : IsStrictlySortedBy node_cmp set
  pub has : AreWithin xs set
  pub within : AreWithin set xs

-- the sets of the lists, in any order and any number of times
pub record AreSetsOf (lists sets : List (List Node)) : Type 0 where
  pub from : (set : List Node) → Contains sets set → (xs : List Node) × Contains lists xs × IsSetOf xs set
  pub each : (xs : List Node) → Contains lists xs → (set : List Node) × Contains sets set × IsSetOf xs set

-- the largest of the lists as sets, each once, in lexicographic order
pub record AreLargest (lists family : List (List Node)) : Type 0 where
  pub ascending : IsStrictlySortedBy (slice_cmp node_cmp) family
  pub each_ascending : (set : List Node) → Contains family set → IsStrictlySortedBy node_cmp set
  pub some : (set : List Node) → Contains family set → set ≢ []
  pub kept : (set : List Node) → Contains family set → (xs : List Node) × Contains lists xs × AreWithin set xs
      × AreWithin xs set
  pub apart : (a b : List Node) → Contains family a → Contains family b → AreWithin a b → a ≡ b
  pub covers : (xs : List Node) → Contains lists xs
      → (xs ≡ []) ⊎ ((big : List Node) × Contains family big × AreWithin xs big)
