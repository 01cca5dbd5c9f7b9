use Rattle.std.proofs.Common.{ℕ}
use Rattle.hg_graph.specs.Places.{IsParentPlace}
use Rattle.hg_graph.specs.Marks.{MarksAlso}
use Rattle.hg_graph.proofs.HeadLemmas.{IsMarkedBefore}
use Rattle.hg_graph.proofs.graph.Graph.mark_parents_of.Given as goal

abbrev pub invariant-loop-place : goal.invariant-loop-place
invariant-loop-place l =
    MarksAlso l.low (λ k. (j : ℕ) × IsMarkedBefore l.low l.marks l.place j × IsParentPlace l.self j k) l.initial.above
    l.above
