use Rattle.hg_log.specs.Drawings.{Grows}
use Rattle.hg_log.proofs.DrawingLemmas.{Grows-trans}
use Rattle.hg_log.proofs.dot.draw_marker.Goals as goal

pub loop-new-preserved : goal.loop-new-preserved
loop-new-preserved g c =
    let end = c.in_ok-write_appended.ensures.1 in
    let line : Grows (g.W.Write.contents c.draw_other-in-loop-new.new.writer) (g.W.Write.contents
    c.write_appended.new.writer) = (end.0, end.2) in
    Grows-trans _ _ _ c.loop-new.invariant (Grows-trans _ _ _ c.in_ok-draw_other-2.ensures line)

pub returns : goal.returns
returns g c = Grows-trans _ _ _ c.in_ok-draw_other.ensures c.loop-new.invariant
