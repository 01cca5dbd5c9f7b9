use Rattle.std.proofs.Common.{arith}
use Rattle.hg_expect.specs.Expectations.{texts}
use Rattle.hg_expect.proofs.FilledLemmas.{differing-next, filled-goes_on, hunks-goes_on}
use Rattle.hg_expect.proofs.checking.check_script.Goals as goal

pub loop-rest-preserved : goal.loop-rest-preserved
loop-rest-preserved c =
    let kept = c.loop-rest.invariant in
    let cut = c.cut_line.ensures.lines in
    let first = c.cut_output.ensures.first in
    let later = c.cut_output.ensures.later in
    let number = c.loop-rest.number in
    let outputs = texts c.loop-rest.left.now in
    record {
      filled = filled-goes_on number _ _ _ _ _ _ _ _ _ cut first later c.in_ok-place.ensures.pushed kept.filled;
      hunks = hunks-goes_on number c.loop-rest.place _ _ _ _ _ _ _ _ _ _ cut first later c.in_ok-checked.ensures.pushed
          c.in_ok-place.ensures.counted kept.hunks;
      differ = omega (
        arith,
        kept.differ,
        c.in_ok-checked.ensures.counted,
        differing-next number _ _ _ _ outputs _ cut first later,
      );
      lines = kept.lines;
      counted = omega (arith, c.cut_line.ensures.shorter, kept.counted);
      few = omega (arith, kept.few, c.in_ok-checked.ensures.few);
      placed = omega (arith, kept.placed, c.in_ok-place.ensures.few);
    }
