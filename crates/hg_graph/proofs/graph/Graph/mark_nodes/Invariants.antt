use Rattle.std.proofs.Common.{take}
use Rattle.hg_graph.specs.Marks.{MarksAlso}
use Rattle.hg_graph.specs.Places.{IsPlaceOfOne}
use Rattle.hg_graph.proofs.graph.Graph.mark_nodes.Given as goal

abbrev pub invariant-loop-node : goal.invariant-loop-node
invariant-loop-node l = MarksAlso l.low (IsPlaceOfOne l.self (take l.node-index l.nodes)) l.initial.marks l.marks
