use Rattle.std.proofs.Common.{Ok}
use Rattle.hg_peer.proofs.PeerLemmas.{unpinned, unpin-refused, unpin-wants, unpin-unchanged}
use Rattle.hg_peer.proofs.peer.unpin.Goals as goal

pub returns-in-Ok-clause-ok : goal.returns-in-Ok-clause-ok
returns-in-Ok-clause-ok c =
    unpinned c.args.kept.now c.unpin.new.self c.args.node (Ok tt) c.unpin.ensures.replica c.in-Ok.ensures.answer

pub returns-in-Err-clause-err : goal.returns-in-Err-clause-err
returns-in-Err-clause-err c =
    unpin-refused c.args.kept.now c.args.node c.in-Err.refusal c.unpin.new.self.pins c.into.result c.into.ensures
    c.in-Err.ensures.answer

pub returns-in-Err-clause-unchanged : goal.returns-in-Err-clause-unchanged
returns-in-Err-clause-unchanged c =
    unpin-unchanged c.args.kept.now c.unpin.new.self c.args.node c.in-Err.refusal c.unpin.ensures.replica
    c.in-Err.ensures.answer

pub returns-in-Err-clause-memory : goal.returns-in-Err-clause-memory
returns-in-Err-clause-memory c =
    unpin-wants c.args.kept.now c.args.node c.in-Err.refusal c.unpin.new.self.pins c.into.result c.into.ensures
    c.in-Err.ensures.answer
