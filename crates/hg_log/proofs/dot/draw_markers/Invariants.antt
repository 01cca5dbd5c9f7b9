use Rattle.hg_log.specs.Drawings.{Grows}
use Rattle.hg_log.proofs.dot.draw_markers.Given as goal

abbrev pub invariant-loop-marker : goal.invariant-loop-marker
invariant-loop-marker g l = Grows (g.W.Write.contents l.initial.writer) (g.W.Write.contents l.writer)
