use Rattle.std.proofs.Common.{take}
use Rattle.hg_graph.specs.Places.{IsPlaceOfOne}
use Rattle.hg_phases.specs.State.{changesets}
use Rattle.hg_view.specs.Flags.{AreTakenOut, IsParentOfOne}
use Rattle.hg_view.specs.HeadPlaces.{IsAmong}
use Rattle.hg_view.proofs.head_updates.take_out_parents_of_nodes.Given as goal

abbrev pub invariant-loop-node : goal.invariant-loop-node
invariant-loop-node l = AreTakenOut (IsParentOfOne (changesets l.replica.history)
    (IsPlaceOfOne (changesets l.replica.history) (take l.node-index l.nodes)) (IsAmong l.among l.replica.history))
    l.fn.heads l.heads
