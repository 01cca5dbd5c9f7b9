use Rattle.std.proofs.Common.{Ok, refl, subst}
use Rattle.hg_replica.specs.State.{ReplicaState}
use Rattle.hg_message.specs.Message.{message_at}
use Rattle.hg_message.specs.Known.{PartAnswer}
use Rattle.hg_trial.proofs.TrialLemmas.{part_taken, none_taken}
use Rattle.hg_trial.proofs.trial.take_in.Goals as goal

pub returns-in-Ok-clause-answer : goal.returns-in-Ok-clause-answer
returns-in-Ok-clause-answer c =
    let read =
    subst (λ (s : ReplicaState). PartAnswer s c.args.bytes.now (Ok c.in-Ok.part)) c.replica.ensures.replica
    c.in-Ok.ensures.answer in
    part_taken c.args.kept.now.replica c.absorb.new.kept.replica c.args.bytes.now c.in-Ok.part c.absorb.result
    c.replica.ensures.valid read c.absorb.ensures.answer

pub returns-in-Err-clause-answer : goal.returns-in-Err-clause-answer
returns-in-Err-clause-answer c =
    none_taken c.args.kept.now.replica c.args.bytes.now (message_at c.args.bytes.now) c.in-Err.error c.into.result refl
    c.into.ensures c.in-Err.ensures.answer
