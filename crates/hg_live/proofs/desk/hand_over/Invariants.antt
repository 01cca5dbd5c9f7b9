use Rattle.std.proofs.Common.{◌≡◌, ◌++◌, length}
use Rattle.std.specs.VecDeque.{deque_capacity}
use Rattle.left_right.specs.Handles.{published, pending}
use Rattle.hg_live.proofs.desk.hand_over.Given as goal

abbrev pub invariant-loop-left : goal.invariant-loop-left
invariant-loop-left g l =
    (published l.writer ≡ published l.initial.writer) × (l.left ≡ length l.waiting.items)
    × (pending l.writer ++ l.waiting.items ≡ pending l.initial.writer ++ l.initial.waiting.items)
    × (deque_capacity l.waiting ≡ deque_capacity l.initial.waiting)

abbrev pub decreases-loop-left : goal.decreases-loop-left
decreases-loop-left g l = l.left
