use Rattle.std.proofs.Common.{length}
use Rattle.hg_line.proofs.origin.line_giving.Given as goal

abbrev pub decreases-loop-at : goal.decreases-loop-at
decreases-loop-at l = length l.rest
