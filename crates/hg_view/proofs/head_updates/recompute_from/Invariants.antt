use Rattle.std.proofs.Common.{◌≤◌, ◌<◌}
use Rattle.hg_view.specs.Flags.{AreRecomputed}
use Rattle.hg_view.specs.HeadPlaces.{IsAmong}
use Rattle.hg_view.proofs.head_updates.recompute_from.Given as goal

abbrev pub invariant-loop-place : goal.invariant-loop-place
invariant-loop-place l =
    AreRecomputed (λ k. (l.first ≤ k) × (k < l.place)) (IsAmong l.among l.replica.history) l.fn.heads
    l.heads
