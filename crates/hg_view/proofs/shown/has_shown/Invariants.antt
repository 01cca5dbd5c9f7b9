use Rattle.std.proofs.Common.{◌-◌, length}
use Rattle.hg_graph.specs.Graph.{nodes}
use Rattle.hg_phases.specs.State.{changesets}
use Rattle.hg_view.proofs.ShownLemmas.{IsSearched}
use Rattle.hg_view.proofs.shown.has_shown.Given as goal

abbrev pub invariant-loop-next : goal.invariant-loop-next
invariant-loop-next l = IsSearched l.replica l.pins l.fn.node l.met.keys l.next

abbrev pub decreases-loop-next : goal.decreases-loop-next
decreases-loop-next l = length (nodes (changesets l.replica.history)) - l.next
