use Rattle.std.proofs.Common.{ℕ, Contains, take}
use Rattle.hg_view.specs.Common.{IsCommonAt}
use Rattle.hg_view.proofs.heads.has_child_in_common.Given as goal

abbrev pub invariant-loop-child : goal.invariant-loop-child
invariant-loop-child l =
    (k : ℕ) → Contains (take l.child-index l.child-items) k → ¬ (IsCommonAt l.replica l.other k)
