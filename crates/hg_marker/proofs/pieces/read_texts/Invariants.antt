use Rattle.std.proofs.Common.{length}
use Rattle.hg_marker.proofs.PiecesLemmas.{ReadsSoFar}
use Rattle.hg_marker.proofs.pieces.read_texts.Given as goal

abbrev pub invariant-loop-rest : goal.invariant-loop-rest
invariant-loop-rest l = ReadsSoFar l.bytes l.rest l.texts

abbrev pub decreases-loop-rest : goal.decreases-loop-rest
decreases-loop-rest l = length l.rest
