use Rattle.hg_log.proofs.DrawingLemmas.{Extends-trans}
use Rattle.hg_log.proofs.boxes.push_quoted.Goals as goal

pub loop-byte-preserved : goal.loop-byte-preserved
loop-byte-preserved c = Extends-trans _ _ _ c.loop-byte.invariant c.in_ok-push_between_quotes.ensures
