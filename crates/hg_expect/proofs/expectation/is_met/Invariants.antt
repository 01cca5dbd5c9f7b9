use Rattle.std.proofs.Common.{◌≡◌, length}
use Rattle.std.specs.Str.Lines.{lines}
use Rattle.hg_expect.specs.Expectations.{is_met}
use Rattle.hg_expect.proofs.expectation.is_met.Given as goal

abbrev pub invariant-loop-line : goal.invariant-loop-line
invariant-loop-line l = is_met (lines l.rest) l.left ≡ is_met (lines l.text) l.output

abbrev pub decreases-loop-line : goal.decreases-loop-line
decreases-loop-line l = length l.rest
