use Rattle.std.proofs.Common.{ℕ}
use Rattle.hg_graph.specs.Marks.{MarksAlso}
use Rattle.hg_graph.proofs.HeadLemmas.{IsMarkedBefore}
use Rattle.hg_message.specs.Covered.{IsParentAlike}
use Rattle.hg_message.proofs.heads.cover.Given as goal

abbrev pub invariant-loop-place : goal.invariant-loop-place
invariant-loop-place l =
    MarksAlso 0 (λ k. (j : ℕ) × IsMarkedBefore 0 l.named l.place j × IsParentAlike l.replica.history j k)
    l.initial.covered l.covered
