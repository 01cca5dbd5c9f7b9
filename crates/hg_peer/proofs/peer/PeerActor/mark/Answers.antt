use Rattle.hg_peer.specs.MarkLaws.{mark_due}
use Rattle.hg_peer.proofs.peer.PeerActor.mark.Goals as goal

pub returns-in-Pin-clause-ok : goal.returns-in-Pin-clause-ok
returns-in-Pin-clause-ok c = rw (← c.self.view_is, c.in-Pin.is) c.pin.ensures.ok

pub returns-in-Pin-clause-due : goal.returns-in-Pin-clause-due
returns-in-Pin-clause-due c = mark_due c.args.self.now c.args.mark.now

pub returns-in-Unpin-clause-ok : goal.returns-in-Unpin-clause-ok
returns-in-Unpin-clause-ok c = rw (← c.self.view_is, c.in-Unpin.is) c.unpin.ensures.ok

pub returns-in-Unpin-clause-due : goal.returns-in-Unpin-clause-due
returns-in-Unpin-clause-due c = mark_due c.args.self.now c.args.mark.now
