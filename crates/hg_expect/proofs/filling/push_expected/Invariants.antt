use Rattle.std.proofs.Common.{◌≡◌, ◌++◌, length}
use Rattle.std.specs.Str.Lines.{lines}
use Rattle.hg_expect.specs.Expectations.{expected}
use Rattle.hg_expect.specs.Filled.{under}
use Rattle.hg_expect.proofs.filling.push_expected.Given as goal

abbrev pub invariant-loop-line : goal.invariant-loop-line
invariant-loop-line l =
    l.out.items ++ under l.front (expected (lines l.rest))
    ≡ l.initial.out.items ++ under l.front (expected (lines l.text))

abbrev pub decreases-loop-line : goal.decreases-loop-line
decreases-loop-line l = length l.rest
