use Rattle.std.proofs.Common.{length}
use Rattle.hg_phases.specs.State.{changesets}
use Rattle.hg_replica.specs.Content.{content_of}
use Rattle.hg_instab.specs.Settling.{IsSoBy, IsSettling}
use Rattle.hg_graph.proofs.QueueLemmas.{most}
use Rattle.hg_instab.proofs.WaitingLemmas.{left_from}
use Rattle.hg_instab.proofs.settling.settle_all.Given as goal

abbrev pub invariant-loop-place : goal.invariant-loop-place
invariant-loop-place l = IsSettling (changesets l.replica.history) (IsSoBy l.kind (content_of l.replica)) l.set.keys
    l.fn.starts l.turned.keys l.waiting

abbrev pub decreases-loop-place : goal.decreases-loop-place
decreases-loop-place l = most (left_from l.kind (length (changesets l.replica.history))) l.waiting
