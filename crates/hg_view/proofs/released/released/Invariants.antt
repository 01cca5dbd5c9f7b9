use Rattle.hg_view.specs.Released.{AreReleasing}
use Rattle.hg_graph.proofs.QueueLemmas.{past}
use Rattle.hg_view.proofs.released.released.Given as goal

abbrev pub invariant-loop-place : goal.invariant-loop-place
invariant-loop-place l = AreReleasing l.replica l.pins l.node l.upheld.keys l.gone.keys l.waiting

abbrev pub decreases-loop-place : goal.decreases-loop-place
decreases-loop-place l = past l.waiting
