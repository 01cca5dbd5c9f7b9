use Rattle.std.proofs.Common.{length}
use Rattle.hg_race.proofs.agreement.+agreeing.Given as goal

abbrev pub decreases-agreeing : goal.decreases-agreeing
decreases-agreeing l = length l.peers.now
