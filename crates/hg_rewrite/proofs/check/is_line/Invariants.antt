use Rattle.std.proofs.Common.{◌≡◌, ℕ, ◌<◌, ◌+◌, slice_get, Some}
use Rattle.hg_changeset.specs.declared.node.Node.{Node}
use Rattle.hg_changeset.specs.Node.{null_node}
use Rattle.hg_rewrite.specs.Reading.{parents_in}
use Rattle.hg_rewrite.proofs.check.is_line.Given as goal

abbrev pub invariant-loop-i : goal.invariant-loop-i
invariant-loop-i l = (k : ℕ) (a b : Node) → k + 1 < l.i → slice_get l.nodes k ≡ Some a
    → slice_get l.nodes (k + 1) ≡ Some b → parents_in l.replica.history b ≡ (a, null_node)
