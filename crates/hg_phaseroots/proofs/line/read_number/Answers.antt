use Rattle.std.proofs.Common.{take, slice_index_or, arith}
use Rattle.std.proofs.lemmas.List.{take_more, length-take}
use Rattle.hg_phaseroots.proofs.DigitLemmas.{one_more, small}
use Rattle.hg_phaseroots.proofs.line.read_number.Goals as goal

pub overflow_mul-number : goal.overflow_mul-number
overflow_mul-number c =
    let few = small (take c.loop-digit.digit-index c.args.digits.now) c.loop-digit.number
    (omega (arith, length-take c.loop-digit.digit-index c.args.digits.now)) c.loop-digit.invariant in
    omega (arith, few)

pub overflow_add-number : goal.overflow_add-number
overflow_add-number c =
    let few = small (take c.loop-digit.digit-index c.args.digits.now) c.loop-digit.number
    (omega (arith, length-take c.loop-digit.digit-index c.args.digits.now)) c.loop-digit.invariant in
    omega (arith, few)

pub loop-digit-preserved : goal.loop-digit-preserved
loop-digit-preserved c =
    rw (take_more c.args.digits.now c.loop-digit.digit-index 0 c.loop-digit-test.true)
    (one_more (take c.loop-digit.digit-index c.args.digits.now)
    (slice_index_or c.args.digits.now c.loop-digit.digit-index 0) c.loop-digit.number (omega arith) (omega arith)
    c.loop-digit.invariant)
