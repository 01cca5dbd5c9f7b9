use Rattle.std.proofs.Common.{◌≤◌, length, vec_len}
use Rattle.hg_race.proofs.race.peers_left.Given as goal

abbrev pub invariant-loop-outcome : goal.invariant-loop-outcome
invariant-loop-outcome l = vec_len l.peers ≤ length l.yielded
