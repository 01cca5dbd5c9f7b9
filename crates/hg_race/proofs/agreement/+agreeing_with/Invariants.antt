use Rattle.std.proofs.Common.{length}
use Rattle.hg_race.proofs.agreement.+agreeing_with.Given as goal

abbrev pub decreases-agreeing_with : goal.decreases-agreeing_with
decreases-agreeing_with l = length l.others.now
