use Rattle.hg_peer.proofs.PeerLemmas.{written-well}
use Rattle.hg_live.proofs.pass.written.Goals as goal

pub returns-in-Ok : goal.returns-in-Ok
returns-in-Ok c =
    written-well c.args.found.now c.in-Ok.bytes.items c.in-Ok.ensures.written c.in-Ok.ensures.spells
