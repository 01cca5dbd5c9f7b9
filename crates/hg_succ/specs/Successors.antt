-- Successors sets, over what a replica contains: what a changeset was rewritten to, in each way that the markers allow.
use Rattle.std.specs.Prelude.{◌≡◌, ◌≢◌, ◌⊎◌, ◌↔◌, ◌*◌, ◌<◌, max, ℕ, List, [], ◌∷◌, ◌++◌, map, sum, length, Contains}
use Rattle.std.specs.List.{AllZip}
use Rattle.std.specs.List.Sorted.{IsStrictlySortedBy}
use Rattle.std.specs.Cmp.Lexicographic.{slice_cmp}
use Rattle.hg_changeset.specs.declared.node.Node.{Node}
use Rattle.hg_changeset.specs.Node.{node_cmp}
use Rattle.hg_marker.specs.Fields.{Fields}
use Rattle.hg_obsstore.specs.Markers.{AreDifferent}
use Rattle.hg_history.specs.Content.{IsHeld}
use Rattle.hg_replica.specs.Content.{Content}
use Rattle.hg_replica.specs.Evolution.{IsMarker, IsPredecessor, Precedes}
use Rattle.hg_succ.specs.Limits.{union_limit}

-- any marker at all
abbrev pub IsAny : Fields → Type 0
IsAny m = Unit {0}

-- it precedes itself: one or more markers lead from it back to it
abbrev pub IsOnCycle : Content → Node → Type 0
IsOnCycle f n = Precedes f IsAny n n

-- some marker rewrote x to y, alone or with others
abbrev pub IsRewrittenTo : Content → Node → Node → Type 0
IsRewrittenTo f x y = (m : Fields) × IsMarker f m × (m.predecessor ≡ x) × Contains m.successors y

-- ---- picks, and the largest of them

-- A pick of n is one full choice of what became of it: nothing where n is on a cycle; itself where no marker rewrote it
-- and it is held; and otherwise, by one of its markers, a pick of each successor, all together. The order in a pick,
-- and what it has twice, say nothing.
mutual
  pub data IsPick (f : Content) : Node → List Node → Type 0 where
    on_cycle : {n : Node} → IsOnCycle f n → IsPick f n []
    itself : {n : Node} → ¬ (IsPredecessor f n) → IsHeld f.0 n → IsPick f n (n ∷ [])
    unknown : {n : Node} → ¬ (IsPredecessor f n) → ¬ (IsHeld f.0 n) → IsPick f n []
    rewritten : {n : Node} {picks : List Node} (m : Fields) → IsMarker f m → m.predecessor ≡ n → ¬ (IsOnCycle f n)
        → IsPickOfEach f m.successors picks → IsPick f n picks

  -- a pick for each place of the list, all together
  pub data IsPickOfEach (f : Content) : List Node → List Node → Type 0 where
    no_places : IsPickOfEach f [] []
    next_place : {n : Node} {ns pick picks : List Node} → IsPick f n pick → IsPickOfEach f ns picks
        → IsPickOfEach f (n ∷ ns) (pick ++ picks)

-- each member of xs is one of ys
abbrev pub AreWithin : List Node → List Node → Type 0
AreWithin xs ys = (x : Node) → Contains xs x → Contains ys x

-- a successors set of n, ascending: the members of a pick that isn't empty and isn't strictly within another
pub record IsSuccessorsSet (f : Content) (n : Node) (set : List Node) : Type 0 where
  pub ascending : IsStrictlySortedBy node_cmp set
  pub some : set ≢ []
  pub pick : (p : List Node) × IsPick f n p × AreWithin set p × AreWithin p set
  pub largest : (p : List Node) → IsPick f n p → AreWithin set p → AreWithin p set

-- exactly the successors sets of n, each once, in lexicographic order
pub record IsFamily (f : Content) (n : Node) (family : List (List Node)) : Type 0 where
  pub ascending : IsStrictlySortedBy (slice_cmp node_cmp) family
  pub exact : (set : List Node) → Contains family set ↔ IsSuccessorsSet f n set

-- ---- too many to tell

-- n has so many successors sets
abbrev pub HasCount : Content → Node → ℕ → Type 0
HasCount f n count = (family : List (List Node)) × IsFamily f n family × (length family ≡ count)

-- each successor of the marker, at each place of its list, has so many successors sets
abbrev pub HasCounts : Content → Fields → List ℕ → Type 0
HasCounts f m counts = AllZip (HasCount f) m.successors counts

-- in how many ways one set for each place can be taken, where places without sets are passed over: the product of the
-- counts that aren't 0
abbrev pub ways : List ℕ → ℕ
ways [] = 1
ways (count ∷ counts) = max count 1 * ways counts

-- the markers that rewrote n, each once, in any order
pub record AreMarkersOf (f : Content) (n : Node) (ms : List Fields) : Type 0 where
  pub different : AreDifferent ms
  pub exact : (m : Fields) → Contains ms m ↔ (IsMarker f m × (m.predecessor ≡ n))

-- n isn't on a cycle, and a successor of one of its markers is overfull, or its markers together allow more than 4,096
-- ways
pub data IsOverfull (f : Content) : Node → Type 0 where
  passed_on : {n x : Node} → ¬ (IsOnCycle f n) → IsRewrittenTo f n x → IsOverfull f x → IsOverfull f n
  too_many : {n : Node} (ms : List Fields) (counts : List (List ℕ)) → ¬ (IsOnCycle f n) → AreMarkersOf f n ms
      → AllZip (HasCounts f) ms counts → union_limit < sum (map ways counts) → IsOverfull f n

-- more than one successors set, or overfull: what n became differs with the markers that are followed
abbrev pub HasSeveral : Content → Node → Type 0
HasSeveral f n = IsOverfull f n ⊎ ((a b : List Node) × IsSuccessorsSet f n a × IsSuccessorsSet f n b × (a ≢ b))
