-- What is known while a graph is compared with another one.
use Rattle.std.specs.Prelude.{◌≡◌, ℕ, List, ◌++◌, length, map, take, slice_get, ◌↔◌, ◌⊎◌, ◌<◌, Some, Contains}
use Rattle.std.specs.List.{AllPairs}
use Rattle.std.specs.declared.cmp.Ordering.TheVariants.{Less}
use Rattle.hg_changeset.specs.declared.node.Node.{Node}
use Rattle.hg_changeset.specs.Node.{node_cmp}
use Rattle.hg_graph.specs.declared.graph.ParentPlaces.{ParentPlaces}
use Rattle.hg_discovery.specs.declared.finding.Finding.{Finding}
use Rattle.hg_discovery.specs.declared.finding.Finding.TheVariants.{Undecided, Common, Missing}
use Rattle.hg_discovery.specs.declared.finding.PlacedNode.{PlacedNode}
use Rattle.hg_discovery.specs.Under.{IsParentAt, IsUnder, IsInOrder}
use Rattle.hg_discovery.specs.Limits.{sample_size}

-- placed nodes are the changesets that are asked about, with their places; a place without one is missing from the
-- start
pub record Search : Type 0 where
  pub parents : List ParentPlaces
  pub placed_nodes : List PlacedNode
  pub decided : List Finding
  pub asked : List PlacedNode

-- what is decided of the changeset at k
abbrev pub Is : List Finding → Finding → ℕ → Type 0
Is ds d k = slice_get ds k ≡ Some d

-- by their ids
abbrev pub IsAscending : List PlacedNode → Type 0
IsAscending xs = AllPairs (λ x y. node_cmp x.node y.node ≡ Less) xs

-- the placed nodes of which P holds, each once, ascending
abbrev pub Lists : (PlacedNode → Type 0) → List PlacedNode → Type 0
Lists P xs = IsAscending xs × ((x : PlacedNode) → Contains xs x ↔ P x)

-- decided so
abbrev pub IsSo : Search → Finding → PlacedNode → Type 0
IsSo s d x = Contains s.placed_nodes x × Is s.decided d x.place

-- decided so, and no other changeset that is decided so has it as an ancestor
abbrev pub IsHead : Search → Finding → PlacedNode → Type 0
IsHead s d x = IsSo s d x × ((j : ℕ) → Is s.decided d j → IsUnder s.parents x.place j → j ≡ x.place)

-- the first sample_size of the heads of the undecided ones and then of the others
pub record IsSample (s : Search) (xs : List PlacedNode) : Type 0 where
  pub heads : List PlacedNode
  pub others : List PlacedNode
  pub heads_are : Lists (IsHead s Undecided) heads
  pub others_are : Lists (λ x. IsSo s Undecided x × ¬ (IsHead s Undecided x)) others
  pub first : xs ≡ take sample_size (heads ++ others)

-- the ancestors of what is common are common, and the descendants of what is missing are missing
pub record IsClosed (ps : List ParentPlaces) (ds : List Finding) : Type 0 where
  pub common : (j k : ℕ) → IsParentAt ps j k → Is ds Common j → Is ds Common k
  pub missing : (j k : ℕ) → IsParentAt ps j k → Is ds Missing k → Is ds Missing j

pub record ArePlacedNodes (ds : List Finding) (xs : List PlacedNode) : Type 0 where
  pub distinct : (x y : PlacedNode) → Contains xs x → Contains xs y → x.node ≡ y.node → x ≡ y
  pub apart : (x y : PlacedNode) → Contains xs x → Contains xs y → x.place ≡ y.place → x ≡ y
  pub within : (x : PlacedNode) → Contains xs x → x.place < length ds
  pub found : (k : ℕ) → Is ds Undecided k ⊎ Is ds Common k → (x : PlacedNode) × Contains xs x × (x.place ≡ k)

pub record IsSearch (s : Search) : Type 0 where
  pub len : length s.decided ≡ length s.parents
  pub in_order : IsInOrder s.parents
  pub placed_nodes : ArePlacedNodes s.decided s.placed_nodes
  pub closed : IsClosed s.parents s.decided
  pub sample : IsSample s s.asked

abbrev pub nodes_of : List PlacedNode → List Node
nodes_of xs = map (λ x. x.node) xs
