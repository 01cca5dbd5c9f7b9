use Rattle.hg_phases.specs.State.{changesets}
use Rattle.std.proofs.Common.{ℕ}
use Rattle.hg_view.specs.Common.{IsCommonAt}
use Rattle.hg_graph.proofs.QueueLemmas.{past}
use Rattle.hg_view.proofs.DescentLemmas.{IsDescended}
use Rattle.hg_view.proofs.heads.heads_in_common.Given as goal

abbrev pub invariant-loop-place : goal.invariant-loop-place
invariant-loop-place l = (b : ℕ) × IsDescended (changesets l.replica.history) (IsCommonAt l.replica l.other) l.childless
    l.waiting l.found.items b

abbrev pub decreases-loop-place : goal.decreases-loop-place
decreases-loop-place l = past l.waiting
