use Rattle.hg_why.proofs.BlockLemmas.{AreWritten}
use Rattle.hg_why.proofs.why.write_why.Given as goal

abbrev pub invariant-loop-place : goal.invariant-loop-place
invariant-loop-place g l = AreWritten l.name l.kept l.place (g.W.Write.contents l.fn.writer)
    (g.W.Write.contents l.writer)
