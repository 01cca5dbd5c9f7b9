use Rattle.hg_graph.proofs.HeadLemmas.{IsMarkedBefore, AreUnmarked}
use Rattle.hg_graph.proofs.graph.Graph.unmarked.Given as goal

abbrev pub invariant-loop-place : goal.invariant-loop-place
invariant-loop-place l = AreUnmarked l.self l.low l.above (IsMarkedBefore l.low l.marks l.place) l.found.keys
