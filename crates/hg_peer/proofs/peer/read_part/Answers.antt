use Rattle.std.proofs.Common.{ap, Err}
use Rattle.hg_marker.specs.declared.error.ReadError.{ReadError}
use Rattle.hg_message.specs.declared.error.MessageFault.{MessageFault}
use Rattle.hg_message.specs.Message.{message_at}
use Rattle.hg_peer.specs.declared.refusal.PeerRefusal.TheVariants.{NoMemory}
use Rattle.hg_peer.specs.BytesLaws.{bytes_due}
use Rattle.hg_peer.proofs.ReadLemmas.{message-long, of_error, read-memory}
use Rattle.hg_peer.proofs.peer.read_part.Goals as goal

pub returns-in-Ok-clause-due : goal.returns-in-Ok-clause-due
returns-in-Ok-clause-due c = bytes_due c.args.bytes.now

pub returns-in-Err-clause-due : goal.returns-in-Err-clause-due
returns-in-Err-clause-due c = bytes_due c.args.bytes.now

pub returns-in-Ok-clause-memory : goal.returns-in-Ok-clause-memory
returns-in-Ok-clause-memory c e = (
  message-long c.in-Ok.message c.args.bytes.now c.in-Ok.ensures.found
      (of_error c.part_of.result NoMemory e c.part_of.ensures.memory),
  (c.in-Ok.message, c.in-Ok.ensures.exact),
)

pub returns-in-Err-clause-memory : goal.returns-in-Err-clause-memory
returns-in-Err-clause-memory c =
    read-memory (message_at c.args.bytes.now) c.in-Err.error c.into.result c.into.ensures c.in-Err.ensures.exact
    (λ e. c.in-Err.ensures.memory (ap (λ (x : ReadError MessageFault). Err x) e))
