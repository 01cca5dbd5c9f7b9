use Rattle.std.proofs.Common.{length}
use Rattle.hg_line.proofs.origin.line_at.Given as goal

abbrev pub decreases-loop-rest : goal.decreases-loop-rest
decreases-loop-rest l = length l.rest
