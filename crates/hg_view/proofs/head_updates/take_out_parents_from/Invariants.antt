use Rattle.std.proofs.Common.{◌≤◌, ◌<◌}
use Rattle.hg_phases.specs.State.{changesets}
use Rattle.hg_view.specs.Flags.{AreTakenOut, IsParentOfOne}
use Rattle.hg_view.specs.HeadPlaces.{IsAmong}
use Rattle.hg_view.proofs.head_updates.take_out_parents_from.Given as goal

abbrev pub invariant-loop-place : goal.invariant-loop-place
invariant-loop-place l = AreTakenOut (IsParentOfOne (changesets l.replica.history)
    (λ j. (l.first ≤ j) × (j < l.place)) (IsAmong l.among l.replica.history)) l.fn.heads l.heads
