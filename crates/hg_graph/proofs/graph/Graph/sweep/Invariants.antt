use Rattle.hg_graph.proofs.MarkLemmas.{IsSwept}
use Rattle.hg_graph.proofs.graph.Graph.sweep.Given as goal

abbrev pub invariant-loop-place : goal.invariant-loop-place
invariant-loop-place l = IsSwept l.self l.low l.fn.marks l.place l.marks
