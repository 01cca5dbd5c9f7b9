use Rattle.std.proofs.Common.{◌≡◌, take, false}
use Rattle.std.specs.List.{list_any, AllByRecursion}
use Rattle.hg_changeset.specs.Node.{IsNode, null_node, node_eq}
use Rattle.hg_marker.proofs.marker.has_null.Given as goal

abbrev pub invariant-loop-node : goal.invariant-loop-node
invariant-loop-node l = (list_any (node_eq null_node) (take l.node-index l.nodes) ≡ false)
    × AllByRecursion IsNode (take l.node-index l.nodes)
