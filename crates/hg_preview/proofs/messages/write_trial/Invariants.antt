use Rattle.hg_replica.specs.State.{nothing_held}
use Rattle.hg_preview.proofs.MessageLemmas.{AreAnswered, AreWritten}
use Rattle.hg_preview.proofs.messages.write_trial.Given as goal

-- the messages so far were answered, and the answers are written
abbrev pub invariant-loop-message : goal.invariant-loop-message
invariant-loop-message g l =
    AreAnswered nothing_held l.messages l.message-index l.answers.items l.trial
    × AreWritten l.answers.items (g.W.Write.contents l.initial.writer) (g.W.Write.contents l.writer)
