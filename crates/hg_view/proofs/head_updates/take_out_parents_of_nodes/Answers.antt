use Rattle.std.proofs.Common.{◌≡◌, ◌+◌, ◌∙◌, ℕ, [], take, get_or, subst}
use Rattle.std.proofs.lemmas.List.{take_all}
use Rattle.hg_changeset.specs.declared.node.Node.{Node}
use Rattle.hg_changeset.proofs.ListLemmas.{Contains-none}
use Rattle.hg_graph.specs.Places.{IsAt, IsPlaceOfOne}
use Rattle.hg_phases.specs.State.{changesets}
use Rattle.hg_view.specs.Flags.{AreTakenOut, IsParentOfOne}
use Rattle.hg_view.specs.HeadPlaces.{IsAmong}
use Rattle.hg_view.proofs.FlagLemmas.{taken-none, taken-then, parents-none, parents-then, nodes-one}
use Rattle.hg_view.proofs.head_updates.take_out_parents_of_nodes.Goals as goal

pub loop-node-init : goal.loop-node-init
loop-node-init c =
    let t = c.args.replica.now.history in
    let cs = changesets t in
    let Q : ℕ → Type 0 = IsAmong c.args.among t in
    taken-none (IsParentOfOne cs (IsPlaceOfOne cs []) Q) c.args.heads.now
    (parents-none cs Q (IsPlaceOfOne cs []) (λ k m. Contains-none m.0 m.1))

pub take_out_parents_of-requires : goal.take_out_parents_of-requires
take_out_parents_of-requires c = c.loop-node.invariant.len ∙ c.requires

pub loop-node-preserved : goal.loop-node-preserved
loop-node-preserved c =
    let t = c.args.replica.now.history in
    let cs = changesets t in
    let ns = c.args.nodes.now in
    let i = c.loop-node.node-index in
    let any : Node = record { 0 = [] } in
    let Q : ℕ → Type 0 = IsAmong c.args.among t in
    let R : ℕ → Type 0 = IsPlaceOfOne cs (take i ns) in
    let S : ℕ → Type 0 = IsAt cs (get_or ns i any) in
    let T : ℕ → Type 0 = IsPlaceOfOne cs (take (i + 1) ns) in
    taken-then (IsParentOfOne cs R Q) (IsParentOfOne cs S Q) (IsParentOfOne cs T Q) c.args.heads.now c.loop-node.heads
    c.take_out_parents_of.new.heads c.loop-node.invariant c.take_out_parents_of.ensures
    (parents-then cs Q R S T (nodes-one cs ns i any c.loop-node-test.true))

pub returns : goal.returns
returns c =
    let t = c.args.replica.now.history in
    let cs = changesets t in
    let ns = c.args.nodes.now in
    let all : take c.loop-node.node-index ns ≡ ns = take_all c.loop-node.node-index ns c.loop-node-test.false in
    subst (λ ms. AreTakenOut (IsParentOfOne cs (IsPlaceOfOne cs ms) (IsAmong c.args.among t)) c.args.heads.now
    c.loop-node.heads) all c.loop-node.invariant
