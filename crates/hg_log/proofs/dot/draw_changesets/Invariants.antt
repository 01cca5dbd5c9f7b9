use Rattle.hg_log.proofs.DrawingLemmas.{AreDrawnFrom}
use Rattle.hg_log.proofs.dot.draw_changesets.Given as goal

abbrev pub invariant-loop-place : goal.invariant-loop-place
invariant-loop-place g l =
    AreDrawnFrom l.cluster.shown.kept.now l.cluster.shown.shows_hidden l.place (g.W.Write.contents l.initial.writer)
    (g.W.Write.contents l.writer)
