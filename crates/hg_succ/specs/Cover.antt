-- What is known of a node whose sets are found.
use Rattle.std.specs.Prelude.{◌≡◌, ◌≢◌, ◌⊎◌, ◌<◌, ◌++◌, ◌∷◌, ℕ, List, [], Contains, length, slice_get, Option, Some}
use Rattle.std.specs.Prelude.{None}
use Rattle.std.specs.Option.{option_map, option_map_or, option_and_then}
use Rattle.std.specs.List.{position}
use Rattle.std.specs.List.Sorted.{IsStrictlySortedBy}
use Rattle.std.specs.Cmp.Lexicographic.{slice_cmp}
use Rattle.std.specs.declared.vec.Vec.{Vec}
use Rattle.std.specs.declared.alloc.Global.{Global}
use Rattle.hg_changeset.specs.declared.node.Node.{Node}
use Rattle.hg_changeset.specs.Node.{node_cmp, node_eq}
use Rattle.hg_replica.specs.Content.{Content}
use Rattle.hg_succ.specs.declared.families.Solved.{Solved}
use Rattle.hg_succ.specs.declared.families.Solved.TheVariants.{Family, Counted, Overfull}
use Rattle.hg_succ.specs.declared.families.Table.{Table}
use Rattle.hg_succ.specs.Successors.{IsPick, AreWithin, IsOverfull}
use Rattle.hg_succ.specs.Answer.{sets_of}
use Rattle.hg_succ.specs.Rows.{At}
use Rattle.hg_succ.specs.Numbered.{AreOnce}

-- The sets are picks, not empty, ascending, none within another, and each pick is within one of them or empty.
pub record IsCover (f : Content) (n : Node) (family : List (List Node)) : Type 0 where
  pub ascending : IsStrictlySortedBy (slice_cmp node_cmp) family
  pub each_ascending : (set : List Node) → Contains family set → IsStrictlySortedBy node_cmp set
  pub some : (set : List Node) → Contains family set → set ≢ []
  pub one : (p : List Node) × IsPick f n p
  pub picks : (set : List Node) → Contains family set → (p : List Node) × IsPick f n p × AreWithin set p
      × AreWithin p set
  pub apart : (a b : List Node) → Contains family a → Contains family b → AreWithin a b → a ≡ b
  pub covers : (p : List Node) → IsPick f n p → (p ≡ []) ⊎ ((set : List Node) × Contains family set × AreWithin p set)

-- the sets of a node, or only how many there are, or that it is overfull
pub data Known : Type 0 where
  are_sets : List (List Node) → Known
  counted : ℕ → Known
  overfull : Known

abbrev pub IsSolved : Content → Node → Known → Type 0
IsSolved f n (are_sets family) = IsCover f n family × ¬ (IsOverfull f n)
IsSolved f n (counted count) = ((family : List (List Node)) × IsCover f n family × (length family ≡ count))
    × ¬ (IsOverfull f n)
IsSolved f n overfull = IsOverfull f n

-- the sets of the family at a place
abbrev pub sets_at : List (Vec (Vec Node Global) Global) → ℕ → List (List Node)
sets_at families place = option_map_or (λ family. sets_of family.items) (slice_get families place) []

-- a node's answer tells where its family stands, if it isn't overfull
abbrev pub known_by : List (Vec (Vec Node Global) Global) → Solved → Known
known_by families (Family place) = are_sets (sets_at families place)
known_by families (Counted count) = counted count
known_by families Overfull = overfull

-- a family stands there
abbrev pub IsPlaced : List (Vec (Vec Node Global) Global) → Solved → Type 0
IsPlaced families (Family place) = place < length families
IsPlaced families (Counted count) = Unit {0}
IsPlaced families Overfull = Unit {0}

-- the answer is placed, and right
abbrev pub IsRight : Content → Node → List (Vec (Vec Node Global) Global) → Solved → Type 0
IsRight f n families solved = IsPlaced families solved × IsSolved f n (known_by families solved)

-- the answer at a place, where there is one
abbrev pub answer_at : List (Option Solved) → ℕ → Option Solved
answer_at answers place = option_and_then (λ solved. solved) (slice_get answers place)

-- what a table answers for a node: what stands at the place that the node has among its nodes
abbrev pub answer : Table → Node → Option Solved
answer table n = option_and_then (answer_at table.answers.items) (position (node_eq n) table.nodes.keys)

-- what a table knows of a node
abbrev pub entry : Table → Node → Option Known
entry table n = option_map (known_by table.families.items) (answer table n)

abbrev pub HasEntry : Table → Node → Type 0
HasEntry table n = (solved : Solved) × (answer table n ≡ Some solved)

-- no node stands twice, each has a place for its answer, and the answers are right
pub record IsTable (f : Content) (table : Table) : Type 0 where
  pub once : AreOnce table.nodes.keys
  pub long : length table.answers.items ≡ length table.nodes.keys
  pub right : (n : Node) (solved : Solved) → answer table n ≡ Some solved → IsRight f n table.families.items solved

-- the node's sets aren't only counted
abbrev pub IsNotCounted : Table → Node → Type 0
IsNotCounted table n = (count : ℕ) → ¬ (answer table n ≡ Some (Counted count))

-- how many sets there are; none where the node is overfull
abbrev pub count_of : Known → ℕ
count_of (are_sets family) = length family
count_of (counted count) = count
count_of overfull = 0

abbrev pub count_in : Option Known → ℕ
count_in (Some known) = count_of known
count_in None = 0

-- the family that is known, if any
abbrev pub family_in : Option Known → List (List Node)
family_in (Some (are_sets family)) = family
family_in (Some (counted count)) = []
family_in (Some overfull) = []
family_in None = []

abbrev pub families : Table → Node → List (List Node)
families table n = family_in (entry table n)

-- none of the nodes is overfull
abbrev pub NoneOverfull : Table → List Node → Type 0
NoneOverfull table ns = (x : Node) → Contains ns x → ¬ (entry table x ≡ Some overfull)

-- one of the nodes is overfull
abbrev pub SomeOverfull : Table → List Node → Type 0
SomeOverfull table ns = (x : Node) × Contains ns x × (entry table x ≡ Some overfull)

-- several sets, or overfull
abbrev pub IsSeveral : Option Known → Type 0
IsSeveral (Some (are_sets family)) = 1 < length family
IsSeveral (Some (counted count)) = 1 < count
IsSeveral (Some overfull) = Unit {0}
IsSeveral None = ⊥

-- the family is put last, and that is its place
pub record PutsLast (family : Vec (Vec Node Global) Global) (old new : Table) (solved : Solved) : Type 0 where
  pub place : solved ≡ Family (length old.families.items)
  pub families : new.families.items ≡ old.families.items ++ family ∷ []
  pub answers : new.answers.items ≡ old.answers.items
  pub nodes : new.nodes.keys ≡ old.nodes.keys

-- the nodes and answers are as they were, and families are put last
pub record Keeps (old new : Table) : Type 0 where
  pub nodes : new.nodes.keys ≡ old.nodes.keys
  pub answers : new.answers.items ≡ old.answers.items
  pub families : (more : List (Vec (Vec Node Global) Global)) × (new.families.items ≡ old.families.items ++ more)

-- the answer is right for n, by the families that the table has now
pub record Solves (f : Content) (n : Node) (old new : Table) (solved : Solved) : Type 0 where
  pub right : IsRight f n new.families.items solved
  pub keeps : Keeps old new

-- the node with this number is done, and the others as far as they were
pub record AddsAnswer (f : Content) (number : ℕ) (old new : Table) : Type 0 where
  pub table : IsTable f new
  pub nodes : new.nodes.keys ≡ old.nodes.keys
  pub done : (n : Node) → At new.nodes.keys number n → HasEntry new n
  pub kept : (n : Node) → HasEntry old n → HasEntry new n
