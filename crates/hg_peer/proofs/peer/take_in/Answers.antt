use Rattle.std.proofs.Common.{Ok, Err, ap, refl, subst}
use Rattle.hg_marker.specs.declared.error.ReadError.{ReadError}
use Rattle.hg_replica.specs.State.{ReplicaState}
use Rattle.hg_message.specs.declared.error.MessageFault.{MessageFault}
use Rattle.hg_message.specs.Message.{message_at}
use Rattle.hg_message.specs.Known.{PartAnswer}
use Rattle.hg_peer.proofs.TakeLemmas.{part_taken, none_taken}
use Rattle.hg_peer.proofs.peer.take_in.Goals as goal

pub returns-in-Ok-clause-answer : goal.returns-in-Ok-clause-answer
returns-in-Ok-clause-answer c =
    let read =
    subst (λ (s : ReplicaState). PartAnswer s c.args.bytes.now (Ok c.in-Ok.part)) c.replica.ensures.replica
    c.in-Ok.ensures.answer in
    part_taken c.args.kept.now c.absorb_owned.new.self c.args.bytes.now c.in-Ok.part c.absorb_owned.result
    c.absorb_owned.ensures.valid read c.absorb_owned.ensures.answer c.absorb_owned.ensures.memory
    c.absorb_owned.ensures.pins

pub returns-in-Err-clause-answer : goal.returns-in-Err-clause-answer
returns-in-Err-clause-answer c =
    none_taken c.args.kept.now c.args.kept.now c.args.bytes.now (message_at c.args.bytes.now) c.in-Err.error
    c.into.result refl c.into.ensures c.in-Err.ensures.answer
    (λ e. c.in-Err.ensures.memory (ap (λ (x : ReadError MessageFault). Err x) e)) refl
