-- Where a discovery begins, and how it ends.
use Rattle.std.specs.Prelude.{◌≡◌, ℕ, List, length, ◌↔◌, Contains}
use Rattle.hg_changeset.specs.declared.node.Node.{Node}
use Rattle.hg_graph.specs.Places.{IsAt}
use Rattle.hg_phases.specs.declared.phase.Phase.TheVariants.{Secret}
use Rattle.hg_phases.specs.State.{State, changesets, IsPhaseOf}
use Rattle.hg_graph.specs.declared.graph.ParentPlaces.{ParentPlaces}
use Rattle.hg_discovery.specs.declared.finding.Finding.{Finding}
use Rattle.hg_discovery.specs.declared.finding.Finding.TheVariants.{Undecided, Common}
use Rattle.hg_discovery.specs.declared.finding.PlacedNode.{PlacedNode}
use Rattle.hg_discovery.specs.Under.{IsShapeOf, IsInOrder}
use Rattle.hg_discovery.specs.Search.{Search, Is, IsSearch, IsAscending, IsClosed, ArePlacedNodes, IsHead, Lists}
use Rattle.hg_discovery.specs.Search.{nodes_of}

-- a changeset that isn't secret, and its place
abbrev pub IsShared : State → PlacedNode → Type 0
IsShared s x = IsAt (changesets s) x.node x.place × (IsPhaseOf s x.node Secret → ⊥)

-- what a discovery of the replica begins upon: its parents' places, its changesets that aren't secret, ascending, and
-- these as undecided
pub record IsBaseline (s : State) (ps : List ParentPlaces) (xs : List PlacedNode) (ds : List Finding) : Type 0 where
  pub shape : IsShapeOf (changesets s) ps
  pub shared : (x : PlacedNode) → Contains xs x ↔ IsShared s x
  pub undecided : (k : ℕ) → Is ds Undecided k ↔ ((x : PlacedNode) × Contains xs x × (x.place ≡ k))
  pub nothing_common : (k : ℕ) → Is ds Common k → ⊥
  pub len : length ds ≡ length ps
  pub in_order : IsInOrder ps
  pub closed : IsClosed ps ds
  pub placed_nodes : ArePlacedNodes ds xs
  pub ascending : IsAscending xs

-- the changesets that aren't secret are undecided, and nothing is common
pub record IsStart (s : State) (t : Search) : Type 0 where
  pub shape : IsShapeOf (changesets s) t.parents
  pub placed_nodes : (x : PlacedNode) → Contains t.placed_nodes x ↔ IsShared s x
  pub undecided : (k : ℕ) → Is t.decided Undecided k ↔ ((x : PlacedNode) × Contains t.placed_nodes x × (x.place ≡ k))
  pub nothing_common : (k : ℕ) → Is t.decided Common k → ⊥
  pub search : IsSearch t

-- the heads of what is common, each once, ascending
abbrev pub AreCommonHeads : Search → List Node → Type 0
AreCommonHeads t ns = (xs : List PlacedNode) × Lists (IsHead t Common) xs × (ns ≡ nodes_of xs)
