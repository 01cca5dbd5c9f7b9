use Rattle.hg_log.proofs.DrawingLemmas.{AreDrawnFrom}
use Rattle.hg_log.proofs.log.draw_log.Given as goal

abbrev pub invariant-loop-place : goal.invariant-loop-place
invariant-loop-place g l =
    AreDrawnFrom l.kept l.look.shows_hidden l.place (g.W.Write.contents l.initial.writer) (g.W.Write.contents l.writer)
