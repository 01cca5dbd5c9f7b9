use Rattle.std.proofs.Common.{◌+◌, ◌≤◌, length}
use Rattle.hg_phaseroots.proofs.ReadLemmas.{IsReadTo}
use Rattle.hg_phaseroots.proofs.read.list_roots.Given as goal

abbrev pub invariant-loop-rest : goal.invariant-loop-rest
invariant-loop-rest l = (l.line_number + length l.rest ≤ length l.text)
    × IsReadTo l.text l.listed.items (l.line_number + 1) l.rest

abbrev pub decreases-loop-rest : goal.decreases-loop-rest
decreases-loop-rest l = length l.rest
