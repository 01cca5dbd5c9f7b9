use Rattle.hg_peer.specs.DecisionLaws.{operation_due}
use Rattle.hg_peer.proofs.PeerLemmas.{decided-admitted, decide-memory}
use Rattle.hg_peer.proofs.peer.PeerActor.decide.Goals as goal

pub returns-in-Ok-clause-admitted : goal.returns-in-Ok-clause-admitted
returns-in-Ok-clause-admitted c =
    rw (← c.self.view_is) (decided-admitted c.self.inside.kept.replica c.self.inside.kept.pins c.args.op.now
    c.in-Ok.part c.in-Ok.ensures.valid c.in-Ok.ensures.changesets c.in-Ok.ensures.answer)

pub returns-in-Err-clause-due : goal.returns-in-Err-clause-due
returns-in-Err-clause-due c =
    rw (← c.self.view_is) (operation_due c.self.inside.kept c.args.op.now c.in-Err.ensures.valid)

pub returns-in-Err-clause-memory : goal.returns-in-Err-clause-memory
returns-in-Err-clause-memory c =
    rw (← c.self.view_is) (decide-memory c.self.inside.kept.replica c.self.inside.kept.pins c.args.op.now
    c.in-Err.refusal c.into.result c.into.ensures c.in-Err.ensures.memory)
