use Rattle.std.proofs.Common.{◌≡◌, vec_len}
use Rattle.hg_race.proofs.race.ring.Given as goal

abbrev pub invariant-loop-number : goal.invariant-loop-number
invariant-loop-number l = vec_len l.racers ≡ l.number
