use Rattle.std.proofs.Common.{length, ◌+◌, ◌-◌}
use Rattle.hg_phases.proofs.LogLemmas.{count_above}
use Rattle.hg_phases.proofs.LowerLemmas.{IsWalked}
use Rattle.hg_phases.proofs.phase_map.PhaseMap.lower_at.Given as goal

abbrev pub invariant-loop-i : goal.invariant-loop-i
invariant-loop-i l = IsWalked l.graph l.place l.phase l.fn.self l.fn.log.items l.self l.log.items l.i

abbrev pub decreases-loop-i : goal.decreases-loop-i
decreases-loop-i l = (count_above l.phase l.self + length l.log.items) - l.i
