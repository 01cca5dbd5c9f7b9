use Rattle.std.proofs.Common.{ℕ, ◌<◌, slice_index_or}
use mathlib.Core.List.{IsPrefix}
use Rattle.hg_live.specs.NodeViews.{PassView}
use Rattle.hg_live.proofs.desk.are_within.Given as goal

abbrev pub invariant-loop-pass : goal.invariant-loop-pass
invariant-loop-pass g l =
    (k : ℕ) (d : PassView) → k < l.pass-index
    → IsPrefix (slice_index_or l.passes k d).seen l.front × IsPrefix (slice_index_or l.passes k d).told l.front
