use Rattle.std.proofs.Common.{◌≡◌, ℕ, ◌<◌, slice_get, Some}
use Rattle.hg_changeset.specs.declared.node.Node.{Node}
use Rattle.hg_rewrite.proofs.RowLemmas.{IsTaken}
use Rattle.hg_rewrite.proofs.check.check_new.Given as goal

abbrev pub invariant-loop-i : goal.invariant-loop-i
invariant-loop-i l = (k : ℕ) → k < l.i → (n : Node) → slice_get l.ids k ≡ Some n
    → ¬ (IsTaken l.replica.history l.ids k n)
