use Rattle.hg_graph.proofs.QueueLemmas.{past}
use Rattle.hg_view.proofs.AboveLemmas.{IsLowered}
use Rattle.hg_view.proofs.above.is_under.Given as goal

abbrev pub invariant-loop-later : goal.invariant-loop-later
invariant-loop-later l = IsLowered l.graph l.place l.fn.waiting l.waiting

abbrev pub decreases-loop-later : goal.decreases-loop-later
decreases-loop-later l = past l.waiting
