use Rattle.std.proofs.Common.{take}
use Rattle.hg_graph.proofs.HeadLemmas.{IsSpanOf}
use Rattle.hg_graph.proofs.graph.Graph.span_of.Given as goal

abbrev pub invariant-loop-node : goal.invariant-loop-node
invariant-loop-node l = IsSpanOf l.self (take l.node-index l.nodes) l.span
