use Rattle.std.proofs.lemmas.Result.{IfOk-weaker, on_err_weaker}
use Rattle.hg_changeset.proofs.ListLemmas.{on_err_anyway}
use Rattle.hg_trial.proofs.TrialLemmas.{memory_wanted, memory_wanted_later, refused_told, taken_told}
use Rattle.hg_trial.proofs.trial.Trial.answer.Goals as goal

pub returns-in-Ok-clause-answer : goal.returns-in-Ok-clause-answer
returns-in-Ok-clause-answer c =
    IfOk-weaker c.answer_to.result _ _
    (λ told h. taken_told c.args.self.now c.take.new.self c.args.bytes.now c.in-Ok.taken told c.take.ensures.valid
    c.answer_to.ensures.hidden c.in-Ok.ensures.answer h) c.answer_to.ensures.told

pub returns-in-Ok-clause-memory : goal.returns-in-Ok-clause-memory
returns-in-Ok-clause-memory c =
    on_err_anyway c.answer_to.result _
    (memory_wanted_later c.args.self.now c.take.new.self c.args.bytes.now c.in-Ok.taken c.in-Ok.ensures.answer)

pub returns-in-Err-clause-answer : goal.returns-in-Err-clause-answer
returns-in-Err-clause-answer c =
    IfOk-weaker c.refused.result _ _
    (λ told h. refused_told c.args.self.now c.take.new.self c.args.bytes.now c.in-Err.refusal told h.1
    c.in-Err.ensures.answer h.0) c.refused.ensures.answer

pub returns-in-Err-clause-memory : goal.returns-in-Err-clause-memory
returns-in-Err-clause-memory c =
    on_err_weaker c.refused.result
    (λ is. memory_wanted c.args.self.now c.take.new.self c.args.bytes.now c.in-Err.refusal c.in-Err.ensures.answer is)
    c.refused.ensures.memory
