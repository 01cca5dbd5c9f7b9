use Rattle.std.proofs.Common.{◌≡◌, length, vec_len}
use Rattle.hg_race.proofs.race.race_all.Given as goal

abbrev pub invariant-loop-result : goal.invariant-loop-result
invariant-loop-result g l = vec_len l.outcomes ≡ length l.yielded
