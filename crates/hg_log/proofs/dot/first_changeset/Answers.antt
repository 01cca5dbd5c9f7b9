use Rattle.std.proofs.Common.{◌∙◌, All, List, ap, refl, subst}
use Rattle.std.proofs.lemmas.List.{take_all}
use Rattle.std.proofs.lemmas.List.Elements.{All-more}
use Rattle.hg_changeset.specs.Contents.{Contents}
use Rattle.hg_graph.specs.Graph.{Holds}
use Rattle.hg_phases.specs.State.{changesets}
use Rattle.hg_replica.specs.State.{ReplicaState}
use Rattle.hg_log.specs.declared.named.NamedNode.{NamedNode}
use Rattle.hg_log.specs.Graphs.{IsHeldBy}
use Rattle.hg_log.proofs.dot.first_changeset.Goals as goal

pub loop-node-preserved : goal.loop-node-preserved
loop-node-preserved c =
    let Lacks : NamedNode → Type 0 = λ n. ¬ (IsHeldBy n c.args.id) in
    let same = c.graph.ensures.graph ∙ ap (λ (r : ReplicaState). changesets r.history) c.replica.ensures.replica in
    let here : Lacks c.node-item.result =
    subst (λ (cs : List Contents). ¬ (Holds cs c.args.id)) same (c.in-None.ensures.missing refl) in
    All-more Lacks c.args.nodes.now c.loop-node.node-index c.node-item.result c.loop-node-test.true
    c.loop-node.invariant (subst Lacks c.node-item.is here)

pub returns-clause-missing : goal.returns-clause-missing
returns-clause-missing c = λ _.
    subst (λ (nodes : List NamedNode). All (λ n. ¬ (IsHeldBy n c.args.id)) nodes)
    (take_all c.loop-node.node-index c.args.nodes.now c.loop-node-test.false) c.loop-node.invariant
