-- The histories of nodes as a graph.
use Rattle.std.specs.Prelude.{◌≡◌, ◌++◌, Bool, List}
use Rattle.hg_changeset.specs.declared.node.Node.{Node}
use Rattle.hg_graph.specs.Graph.{Holds}
use Rattle.hg_phases.specs.State.{changesets}
use Rattle.hg_log.specs.declared.named.NamedNode.{NamedNode as NamedNodeValue}
use Rattle.hg_log.specs.Drawings.{ArePieces, IsGraph, Text}
use Rattle.hg_log.specs.Objects.{NodeState}

-- the node holds the changeset
abbrev pub IsHeldBy : NamedNodeValue → Node → Type 0
IsHeldBy node n = Holds (changesets node.kept.now.replica.history) n

-- the cluster of a node has its changesets between other lines
abbrev pub IsCluster : Bool → NodeState → Text → Type 0
IsCluster shows_hidden node text = IsGraph node.1 shows_hidden text

-- the clusters of all nodes, one after the other
abbrev pub AreClusters : Bool → List NodeState → Text → Type 0
AreClusters shows_hidden nodes text = ArePieces (IsCluster shows_hidden) nodes text

-- a graph has the clusters between other lines
abbrev pub IsGraphOf : Bool → List NodeState → Text → Type 0
IsGraphOf shows_hidden nodes text =
    (before : Text) × (clusters : Text) × (after : Text) × AreClusters shows_hidden nodes clusters
    × (text ≡ before ++ (clusters ++ after))
