-- Graphs of numbered nodes: a row for each node, with the nodes that its edges lead to.
use Rattle.std.specs.Prelude.{◌≡◌, ℕ, ◌<◌, ◌↔◌, false, List, length, map, slice_get, Some, Contains, IsTrue}
use Rattle.std.specs.declared.vec.Vec.{Vec}
use Rattle.std.specs.declared.alloc.Global.{Global}
use Rattle.hg_succ.specs.declared.search.Closed.{Closed}
use Rattle.hg_succ.specs.Steps.{LeadsBack}

-- x stands at the place
abbrev pub At : {A : Type 0} → List A → ℕ → A → Type 0
At xs place x = slice_get xs place ≡ Some x

abbrev pub rows_of : List (Vec ℕ Global) → List (List ℕ)
rows_of rows = map (λ row. row.items) rows

-- an edge leads from x to y
abbrev pub Edge : List (List ℕ) → ℕ → ℕ → Type 0
Edge rows x y = (row : List ℕ) × At rows x row × Contains row y

-- each edge leads to a node
abbrev pub AreWithin : List (List ℕ) → Type 0
AreWithin rows = (x y : ℕ) → Edge rows x y → y < length rows

-- the node stands in the order before a place
abbrev pub StandsBefore : List Closed → ℕ → ℕ → Type 0
StandsBefore order place x = (k : ℕ) × (e : Closed) × (k < place) × At order k e × (e.node ≡ x)

-- Each node is known to be on a cycle, or not. One that isn't comes after those that its edges lead to.
pub record IsOrder (rows : List (List ℕ)) (order : List Closed) : Type 0 where
  pub nodes : (k : ℕ) (e : Closed) → At order k e → e.node < length rows
  pub cyclic : (k : ℕ) (e : Closed) → At order k e → (IsTrue e.cyclic ↔ LeadsBack (Edge rows) e.node)
  pub after : (k : ℕ) (e : Closed) (y : ℕ) → At order k e → e.cyclic ≡ false → Edge rows e.node y
      → StandsBefore order k y
