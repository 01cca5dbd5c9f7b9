use Rattle.std.proofs.Common.{arith, subst, Result}
use Rattle.hg_marker.specs.Reading.{Gives}
use Rattle.hg_message.specs.declared.error.MessageFault.{MessageFault}
use Rattle.hg_message.specs.Value.{MessageValue}
use Rattle.hg_message.proofs.MessageLemmas.{is_found, spelled_is_read}
use Rattle.hg_message.proofs.message.Message.from_bytes_at.Goals as goal

pub returns-clause-only : goal.returns-clause-only
returns-clause-only c =
    λ m s. subst (λ (r : Result MessageValue MessageFault). Gives (λ (x : MessageValue). x) c.read_message.result r)
    (spelled_is_read c.args.bytes.now m s) c.read_message.ensures.exact

pub returns-clause-found : goal.returns-clause-found
returns-clause-found c = is_found c.args.bytes.now c.read_message.result
    (λ i. omega (arith, c.type_inv.bytes i)) c.read_message.ensures.exact
