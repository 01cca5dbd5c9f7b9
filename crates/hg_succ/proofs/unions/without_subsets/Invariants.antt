use Rattle.std.proofs.Common.{◌≡◌, filter, take}
use Rattle.hg_succ.specs.Answer.{sets_of}
use Rattle.hg_succ.specs.Unions.{is_largest}
use Rattle.hg_succ.proofs.unions.without_subsets.Given as goal

abbrev pub invariant-loop-place : goal.invariant-loop-place
invariant-loop-place l = sets_of l.kept.items ≡ filter (is_largest (sets_of l.sets)) (sets_of (take l.place l.sets))
