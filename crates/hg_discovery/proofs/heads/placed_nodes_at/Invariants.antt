use Rattle.std.proofs.Common.{◌↔◌, Contains, take}
use Rattle.hg_graph.specs.Places.{IsAt}
use Rattle.hg_discovery.specs.declared.finding.PlacedNode.{PlacedNode}
use Rattle.hg_discovery.proofs.heads.placed_nodes_at.Given as goal

abbrev pub invariant-loop-place : goal.invariant-loop-place
invariant-loop-place l = (x : PlacedNode) → Contains l.found.items x
    ↔ (Contains (take l.place-index l.places) x.place × IsAt l.graph x.node x.place)
