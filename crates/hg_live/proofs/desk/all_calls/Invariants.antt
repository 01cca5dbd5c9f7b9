use Rattle.std.proofs.Common.{◌≡◌, take}
use Rattle.std.specs.List.{sum_by}
use Rattle.hg_live.specs.NodeViews.{PassView}
use Rattle.hg_live.proofs.desk.all_calls.Given as goal

abbrev pub invariant-loop-pass : goal.invariant-loop-pass
invariant-loop-pass g l = l.all ≡ sum_by (λ (p : PassView). p.calls) (take l.pass-index l.passes)
