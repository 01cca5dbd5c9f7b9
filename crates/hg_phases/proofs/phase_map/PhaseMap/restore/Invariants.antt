use Rattle.std.proofs.Common.{◌≡◌, ◌<◌, length, All}
use Rattle.smallvec.specs.SmallVec.{small_vec_len}
use Rattle.hg_phases.specs.Log.{restored}
use Rattle.hg_phases.proofs.phase_map.PhaseMap.restore.Given as goal

abbrev pub invariant-loop-place : goal.invariant-loop-place
invariant-loop-place l = record {
  within : All (λ e. e.place < length l.self) l.log.items;
  rest : restored l.self l.log.items ≡ restored l.fn.self l.fn.log.items;
}

abbrev pub decreases-loop-place : goal.decreases-loop-place
decreases-loop-place l = small_vec_len l.log
