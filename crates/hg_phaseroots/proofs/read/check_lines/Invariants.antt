use Rattle.std.proofs.Common.{◌+◌, ◌≤◌, List, length}
use Rattle.hg_phaseroots.specs.Reading.{Root}
use Rattle.hg_phaseroots.proofs.ReadLemmas.{IsReadTo}
use Rattle.hg_phaseroots.proofs.read.check_lines.Given as goal

abbrev pub invariant-loop-rest : goal.invariant-loop-rest
invariant-loop-rest l = (l.line_number + length l.rest ≤ length l.text)
    × ((roots : List Root) × IsReadTo l.text roots (l.line_number + 1) l.rest)

abbrev pub decreases-loop-rest : goal.decreases-loop-rest
decreases-loop-rest l = length l.rest
