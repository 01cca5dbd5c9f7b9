use Rattle.std.proofs.Common.{[], List, subst, sym}
use Rattle.hg_replica.specs.State.{IsValid, nothing_held}
use Rattle.hg_trial.specs.declared.tried.Answer.{Answer}
use Rattle.hg_trial.specs.Trials.{AnswersTo}
use Rattle.hg_trial.proofs.TrialLemmas.{all_answered, answers_least, next_answer}
use Rattle.hg_trial.proofs.tried.try_messages.Goals as goal

pub loop-bytes-init : goal.loop-bytes-init
loop-bytes-init c =
    subst (λ (told : List Answer). AnswersTo nothing_held [] told c.in_ok-trial.trial) (sym c.new-answers.ensures.items)
    c.in_ok-trial.ensures

pub loop-bytes-preserved : goal.loop-bytes-preserved
loop-bytes-preserved c =
    next_answer nothing_held c.loop-bytes.trial c.answer.new.self c.args.messages.now c.loop-bytes.bytes-index _
    c.loop-bytes.answers.items c.push.new.self.items c.in_ok-answer.field-0 c.loop-bytes-test.true
    c.loop-bytes.invariant c.in_ok-answer.ensures.answer c.in_ok-push.ensures.items

pub returns-clause-answers : goal.returns-clause-answers
returns-clause-answers c =
    all_answered nothing_held c.loop-bytes.trial c.args.messages.now c.loop-bytes.bytes-index c.loop-bytes.answers.items
    c.loop-bytes-test.false c.loop-bytes.invariant

pub returns-clause-least : goal.returns-clause-least
returns-clause-least c =
    answers_least c.loop-bytes.trial _ c.loop-bytes.answers.items
    (subst IsValid c.in_ok-trial.ensures c.is_valid.ensures)
    (all_answered nothing_held c.loop-bytes.trial c.args.messages.now c.loop-bytes.bytes-index
    c.loop-bytes.answers.items c.loop-bytes-test.false c.loop-bytes.invariant)
