use Rattle.hg_peer.proofs.PeerLemmas.{refused-writing, written-well, writing-wants}
use Rattle.hg_peer.proofs.peer.written.Goals as goal

pub returns-in-Ok-clause-ok : goal.returns-in-Ok-clause-ok
returns-in-Ok-clause-ok c =
    written-well c.args.found.now c.in-Ok.bytes.items c.in-Ok.ensures.written c.in-Ok.ensures.spells

pub returns-in-Err-clause-err : goal.returns-in-Err-clause-err
returns-in-Err-clause-err c =
    refused-writing c.args.found.now c.in-Err.refusal c.into.result c.into.ensures c.in-Err.ensures.written

pub returns-in-Err-clause-memory : goal.returns-in-Err-clause-memory
returns-in-Err-clause-memory c =
    writing-wants c.args.found.now c.in-Err.refusal c.into.result c.into.ensures c.in-Err.ensures.written
