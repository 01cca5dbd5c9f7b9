use Rattle.hg_log.specs.Drawings.{Grows}
use Rattle.hg_log.proofs.log.draw_below.Given as goal

abbrev pub invariant-loop-fate : goal.invariant-loop-fate
invariant-loop-fate g l = Grows (g.W.Write.contents l.initial.writer) (g.W.Write.contents l.writer)
