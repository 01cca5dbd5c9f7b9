use Rattle.std.proofs.Common.{ℕ}
use Rattle.hg_graph.proofs.QueueLemmas.{past}
use Rattle.hg_view.proofs.AboveLemmas.{IsSearched}
use Rattle.hg_view.proofs.above.places_above.Given as goal

abbrev pub invariant-loop-place : goal.invariant-loop-place
invariant-loop-place l = (b : ℕ) × IsSearched l.graph l.heads l.common l.fresh l.shared l.found.items b

abbrev pub decreases-loop-place : goal.decreases-loop-place
decreases-loop-place l = past l.fresh
