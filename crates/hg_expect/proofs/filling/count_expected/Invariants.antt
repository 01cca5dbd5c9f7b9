use Rattle.std.proofs.Common.{◌≡◌, ◌+◌, ◌≤◌, length}
use Rattle.std.specs.Str.Lines.{lines}
use Rattle.hg_expect.specs.Expectations.{expected}
use Rattle.hg_expect.proofs.filling.count_expected.Given as goal

abbrev pub invariant-loop-after : goal.invariant-loop-after
invariant-loop-after l =
    (l.count + length (expected (lines l.rest)) ≡ length (expected (lines l.text)))
    × (l.count + length l.rest ≤ length l.text)

abbrev pub decreases-loop-after : goal.decreases-loop-after
decreases-loop-after l = length l.rest
