use Rattle.std.proofs.Common.{◌≡◌, ◌+◌, ◌∙◌, [], take, get_or, subst}
use Rattle.std.proofs.lemmas.List.{take_all}
use Rattle.hg_changeset.specs.declared.node.Node.{Node}
use Rattle.hg_changeset.proofs.ListLemmas.{Contains-none}
use Rattle.hg_graph.specs.Places.{IsAt, IsPlaceOfOne}
use Rattle.hg_phases.specs.State.{changesets}
use Rattle.hg_view.specs.Flags.{AreRecomputed}
use Rattle.hg_view.specs.HeadPlaces.{IsAmong}
use Rattle.hg_view.proofs.FlagLemmas.{recomputed-none, recomputed-then, nodes-one}
use Rattle.hg_view.proofs.head_updates.recompute_nodes.Goals as goal

pub loop-node-init : goal.loop-node-init
loop-node-init c =
    recomputed-none _ _ _ (λ k m. Contains-none _ m.1)

pub recompute_node-requires : goal.recompute_node-requires
recompute_node-requires c = c.loop-node.invariant.len ∙ c.requires

pub loop-node-preserved : goal.loop-node-preserved
loop-node-preserved c =
    let any : Node = record { 0 = [] } in
    recomputed-then _ _ _ _ _ _ _ c.loop-node.invariant c.recompute_node.ensures
    (nodes-one _ _ _ _ c.loop-node-test.true)

pub returns : goal.returns
returns c =
    let t = c.args.replica.now.history in
    let ns = c.args.nodes.now in
    let all : take c.loop-node.node-index ns ≡ ns = take_all c.loop-node.node-index ns c.loop-node-test.false in
    subst (λ ms. AreRecomputed (IsPlaceOfOne (changesets t) ms) (IsAmong c.args.among t) c.args.heads.now
    c.loop-node.heads)
    all c.loop-node.invariant
