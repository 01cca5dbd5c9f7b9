-- Nodes with numbers, and what the markers rewrote them to.
use Rattle.std.specs.Prelude.{◌≡◌, ◌⊎◌, ℕ, List, [], ◌++◌, length, slice_get, Contains}
use Rattle.std.specs.Option.{option_map_or}
use Rattle.hg_changeset.specs.declared.node.Node.{Node}
use Rattle.hg_marker.specs.Fields.{Fields}
use Rattle.hg_replica.specs.Content.{Content}
use Rattle.hg_succ.specs.Rows.{At}
use Rattle.hg_succ.specs.Successors.{IsRewrittenTo}

-- the successors of the marker at a place
abbrev pub successors_at : List Fields → ℕ → List Node
successors_at markers place = option_map_or (λ m. m.successors) (slice_get markers place) []

-- nodes that weren't there are put last, and the numbers of those that are so are added to a row
pub record Adds (P : Node → Type 0) (old new : List Node) (row longer : List ℕ) : Type 0 where
  pub grows : (more : List Node) × (new ≡ old ++ more)
  pub kept : (j : ℕ) → Contains row j → Contains longer j
  pub listed : (j : ℕ) → Contains longer j → Contains row j ⊎ ((y : Node) × P y × At new j y)
  pub each : (y : Node) → P y → (j : ℕ) × Contains longer j × At new j y

-- the row has exactly the numbers of what x was rewritten to
pub record IsRow (f : Content) (nodes : List Node) (x : Node) (row : List ℕ) : Type 0 where
  pub listed : (j : ℕ) → Contains row j → (y : Node) × IsRewrittenTo f x y × At nodes j y
  pub each : (y : Node) → IsRewrittenTo f x y → (j : ℕ) × Contains row j × At nodes j y

-- each row is that of the node with its number
abbrev pub AreRows : Content → List Node → List (List ℕ) → Type 0
AreRows f nodes rows = (i : ℕ) (x : Node) (row : List ℕ) → At nodes i x → At rows i row → IsRow f nodes x row

-- no node has two numbers
abbrev pub AreOnce : List Node → Type 0
AreOnce nodes = (i j : ℕ) (x : Node) → At nodes i x → At nodes j x → i ≡ j

-- the nodes have numbers, the first ones among them, and rows of all that they were rewritten to
pub record IsNumbered (f : Content) (roots nodes : List Node) (rows : List (List ℕ)) : Type 0 where
  pub first : (n : Node) → Contains roots n → Contains nodes n
  pub once : AreOnce nodes
  pub all : length rows ≡ length nodes
  pub exact : AreRows f nodes rows
