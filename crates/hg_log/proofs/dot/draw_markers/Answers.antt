use Rattle.hg_log.proofs.DrawingLemmas.{Grows-trans}
use Rattle.hg_log.proofs.dot.draw_markers.Goals as goal

pub loop-marker-preserved : goal.loop-marker-preserved
loop-marker-preserved g c = Grows-trans _ _ _ c.loop-marker.invariant c.in_ok-draw_marker.ensures
