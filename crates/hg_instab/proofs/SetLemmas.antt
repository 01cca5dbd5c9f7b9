-- Sets of nodes that were collected from lists.
use Rattle.std.proofs.Common.{List, Contains, ◌↔◌}
use Rattle.std.specs.BTreeSet.{BTreeSet, IsFromIterResult}
use Rattle.hg_changeset.specs.declared.node.Node.{Node}
use Rattle.hg_changeset.specs.Node.{node_cmp}
use Rattle.hg_changeset.proofs.NodeLemmas.{node_cmp_total, node_cmp_exact}
use Rattle.hg_graph.proofs.WalkLemmas as walk
pub use Rattle.hg_graph.proofs.WalkLemmas.{along}

-- the set has the list's nodes
pub collected : (xs : List Node) (set : BTreeSet Node) → IsFromIterResult node_cmp xs set → (n : Node)
    → Contains set.keys n ↔ Contains xs n
collected = walk.collected node_cmp_total node_cmp_exact
