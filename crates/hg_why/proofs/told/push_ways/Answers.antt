use Rattle.hg_log.proofs.DrawingLemmas.{Extends-trans}
use Rattle.hg_why.proofs.told.push_ways.Goals as goal

pub loop-place-preserved : goal.loop-place-preserved
loop-place-preserved c = Extends-trans _ _ _ c.loop-place.invariant c.in_ok-before.ensures
