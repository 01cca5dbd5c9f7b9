use Rattle.hg_log.specs.Drawings.{Grows}
use Rattle.hg_log.proofs.dot.draw_marker.Given as goal

abbrev pub invariant-loop-new : goal.invariant-loop-new
invariant-loop-new g l = Grows (g.W.Write.contents l.initial.writer) (g.W.Write.contents l.writer)
