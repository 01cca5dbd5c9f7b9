use Rattle.hg_replica.specs.State.{IsValid, nothing_held}
use Rattle.std.proofs.Common.{[], List, subst, sym}
use Rattle.hg_trial.specs.declared.tried.Answer.{Answer}
use Rattle.hg_trial.specs.Trials.{AnswersTo}
use Rattle.hg_trial.proofs.TrialLemmas.{answers_least}
use Rattle.hg_preview.proofs.MessageLemmas.{all_are_answered, next_answered, next_written, none_written}
use Rattle.hg_preview.proofs.messages.write_trial.Goals as goal

pub loop-message-init : goal.loop-message-init
loop-message-init g c = (
  subst (λ (told : List Answer). AnswersTo nothing_held [] told c.in_ok-trial.trial) (sym c.new-answers.ensures.items)
      c.in_ok-trial.ensures,
  none_written _ (g.W.Write.contents c.args.writer.now) c.new-answers.ensures.items,
)

pub loop-message-preserved : goal.loop-message-preserved
loop-message-preserved g c = (
  next_answered nothing_held c.loop-message.trial c.answer.new.trial c.args.messages.now c.loop-message.message-index _
      c.loop-message.answers.items c.push.new.self.items c.in_ok-answer.field-0 c.loop-message-test.true
      c.loop-message.invariant.0 c.in_ok-answer.ensures.answer c.in_ok-push.ensures.items,
  next_written c.loop-message.answers.items c.push.new.self.items c.in_ok-answer.field-0 _ _ _
      c.loop-message.invariant.1 c.in_ok-answer.ensures.written c.in_ok-push.ensures.items,
)

pub returns-clause-answers : goal.returns-clause-answers
returns-clause-answers g c =
    all_are_answered nothing_held c.loop-message.trial c.args.messages.now c.loop-message.message-index
    c.loop-message.answers.items c.loop-message-test.false c.loop-message.invariant.0

pub returns-clause-least : goal.returns-clause-least
returns-clause-least g c =
    answers_least c.loop-message.trial _ c.loop-message.answers.items
    (subst IsValid c.in_ok-trial.ensures c.kept.ensures.valid)
    (all_are_answered nothing_held c.loop-message.trial c.args.messages.now c.loop-message.message-index
    c.loop-message.answers.items c.loop-message-test.false c.loop-message.invariant.0)

pub returns-clause-written : goal.returns-clause-written
returns-clause-written g c = c.loop-message.invariant.1
