use Rattle.std.proofs.Common.{List, subst}
use Rattle.hg_changeset.specs.declared.node.Node.{Node}
use Rattle.hg_replica.specs.State.{ReplicaState}
use Rattle.hg_message.specs.declared.scope.Scope.TheVariants.{Served, Whole}
use Rattle.hg_message.specs.Outgoing.{FindAnswer}
use Rattle.hg_message.proofs.outgoing.Outgoing.above_kept.Goals as goal

pub returns-in-Served : goal.returns-in-Served
returns-in-Served c = rw c.in-Served.is (subst
    (λ (s : ReplicaState). FindAnswer s c.args.kept.now.pins c.args.common.now Served c.above_served.result)
    c.replica.ensures.replica c.above_served.ensures)

pub returns-in-Whole : goal.returns-in-Whole
returns-in-Whole c = rw c.in-Whole.is (subst
    (λ (s : ReplicaState). FindAnswer s c.args.kept.now.pins c.args.common.now Whole c.above.result)
    c.replica-in-Whole.ensures.replica
    (subst (λ (pins : List Node). FindAnswer c.replica-in-Whole.result.now pins c.args.common.now Whole c.above.result)
    c.pins.ensures.pins c.above.ensures))
