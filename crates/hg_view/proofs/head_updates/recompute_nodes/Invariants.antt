use Rattle.std.proofs.Common.{take}
use Rattle.hg_graph.specs.Places.{IsPlaceOfOne}
use Rattle.hg_phases.specs.State.{changesets}
use Rattle.hg_view.specs.Flags.{AreRecomputed}
use Rattle.hg_view.specs.HeadPlaces.{IsAmong}
use Rattle.hg_view.proofs.head_updates.recompute_nodes.Given as goal

abbrev pub invariant-loop-node : goal.invariant-loop-node
invariant-loop-node l = AreRecomputed (IsPlaceOfOne (changesets l.replica.history) (take l.node-index l.nodes))
    (IsAmong l.among l.replica.history) l.fn.heads l.heads
