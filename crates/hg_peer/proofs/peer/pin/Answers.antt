use Rattle.std.proofs.Common.{Ok}
use Rattle.hg_peer.proofs.PeerLemmas.{pinned, pin-refused, pin-wants, pin-unchanged}
use Rattle.hg_peer.proofs.peer.pin.Goals as goal

pub returns-in-Ok-clause-ok : goal.returns-in-Ok-clause-ok
returns-in-Ok-clause-ok c =
    pinned c.args.kept.now c.pin.new.self c.args.node (Ok tt) c.pin.ensures.replica c.in-Ok.ensures.answer

pub returns-in-Err-clause-err : goal.returns-in-Err-clause-err
returns-in-Err-clause-err c =
    pin-refused c.args.kept.now c.args.node c.in-Err.refusal c.pin.new.self.pins c.into.result c.into.ensures
    c.in-Err.ensures.answer

pub returns-in-Err-clause-unchanged : goal.returns-in-Err-clause-unchanged
returns-in-Err-clause-unchanged c =
    pin-unchanged c.args.kept.now c.pin.new.self c.args.node c.in-Err.refusal c.pin.ensures.replica
    c.in-Err.ensures.answer

pub returns-in-Err-clause-memory : goal.returns-in-Err-clause-memory
returns-in-Err-clause-memory c =
    pin-wants c.args.kept.now c.args.node c.in-Err.refusal c.pin.new.self.pins c.into.result c.into.ensures
    c.in-Err.ensures.answer
