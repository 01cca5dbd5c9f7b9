use Rattle.std.proofs.Common.{◌≡◌, take}
use Rattle.std.specs.List.{flat_map}
use Rattle.hg_graph.specs.Graph.{nodes}
use Rattle.hg_phases.specs.Log.{node_before}
use Rattle.hg_phases.proofs.lowered.nodes_of.Given as goal

abbrev pub invariant-loop-lowered : goal.invariant-loop-lowered
invariant-loop-lowered l = l.found.items ≡ flat_map (node_before (nodes l.graph) l.before) (take l.lowered-index l.log)
