-- Placed nodes in the order of their ids.
use Rattle.std.specs.Ordering.{nat_cmp, ordering_then}
use Rattle.std.specs.declared.cmp.Ordering.{Ordering}
use Rattle.hg_changeset.specs.Node.{node_cmp}
use Rattle.hg_discovery.specs.declared.finding.PlacedNode.{PlacedNode}

-- by id, and then by place
abbrev pub placed_node_cmp : PlacedNode → PlacedNode → Ordering
placed_node_cmp x y = ordering_then (node_cmp x.node y.node) (nat_cmp x.place y.place)
