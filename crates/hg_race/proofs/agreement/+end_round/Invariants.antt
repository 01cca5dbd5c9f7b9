use Rattle.std.proofs.Common.{◌-◌, length}
use Rattle.hg_race.proofs.agreement.+end_round.Given as goal

abbrev pub decreases-end_round : goal.decreases-end_round
decreases-end_round l = length l.fleet.now.nodes - l.taker
