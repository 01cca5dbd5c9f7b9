use Rattle.hg_log.proofs.DrawingLemmas.{Grows-trans}
use Rattle.hg_log.proofs.log.draw_below.Goals as goal

pub loop-fate-preserved : goal.loop-fate-preserved
loop-fate-preserved g c = Grows-trans _ _ _ c.loop-fate.invariant c.in_ok-draw_beside-2.ensures

pub returns : goal.returns
returns g c =
    Grows-trans _ _ _ c.in_ok-rest.ensures (Grows-trans _ _ _ c.in_ok-draw_beside.ensures c.loop-fate.invariant)
