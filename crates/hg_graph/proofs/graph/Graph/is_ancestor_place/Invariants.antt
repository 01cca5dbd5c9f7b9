use Rattle.hg_graph.proofs.AscentLemmas.{IsClimbed}
use Rattle.hg_graph.proofs.graph.Graph.is_ancestor_place.Given as goal

abbrev pub invariant-loop-place : goal.invariant-loop-place
invariant-loop-place l = IsClimbed l.self l.low l.high l.waiting l.place

abbrev pub decreases-loop-place : goal.decreases-loop-place
decreases-loop-place l = l.place
