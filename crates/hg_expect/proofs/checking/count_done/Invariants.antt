use Rattle.std.proofs.Common.{◌≡◌, ◌+◌, ◌≤◌, length, count_by}
use Rattle.std.specs.Str.Lines.{lines}
use Rattle.hg_expect.specs.Expectations.{is_done}
use Rattle.hg_expect.proofs.checking.count_done.Given as goal

abbrev pub invariant-loop-rest : goal.invariant-loop-rest
invariant-loop-rest l =
    (l.count + count_by is_done (lines l.rest) ≡ count_by is_done (lines l.text))
    × (l.count + length l.rest ≤ length l.text)

abbrev pub decreases-loop-rest : goal.decreases-loop-rest
decreases-loop-rest l = length l.rest
