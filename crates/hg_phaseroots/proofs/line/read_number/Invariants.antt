use Rattle.std.proofs.Common.{take}
use Rattle.hg_phaseroots.proofs.DigitLemmas.{IsNumberSoFar}
use Rattle.hg_phaseroots.proofs.line.read_number.Given as goal

abbrev pub invariant-loop-digit : goal.invariant-loop-digit
invariant-loop-digit l = IsNumberSoFar (take l.digit-index l.digits) l.number
