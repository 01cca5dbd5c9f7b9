use Rattle.std.proofs.Common.{◌<◌, ◌≤◌, ◌↔◌, false, List, [], get_or, length, Contains, subst}
use Rattle.std.proofs.lemmas.List.{get_or_default, take_all}
use Rattle.std.specs.BTreeSet.{Updates}
use Rattle.hg_changeset.specs.declared.node.Node.{Node}
use Rattle.hg_changeset.specs.Node.{node_cmp}
use Rattle.hg_changeset.proofs.ListLemmas.{Contains-none}
use Rattle.hg_view.specs.Released.{IsLeft}
use Rattle.hg_instab.proofs.TurnLemmas.{node-removed}
use Rattle.hg_view.proofs.ReleasedLemmas.{left-less}
use Rattle.hg_view.proofs.released.take_out.Goals as goal

pub loop-node-init : goal.loop-node-init
loop-node-init c n = (λ h. (h, Contains-none n), λ left. left.0)

pub loop-node-preserved : goal.loop-node-preserved
loop-node-preserved c =
    let first : Node = record { 0 = [] } in
    let gone = c.args.gone.now.keys in
    let i = c.loop-node.node-index in
    let l : i < length gone = subst (λ (ns : List Node). i < length ns) c.as_slice-node-items.ensures.keys
    c.loop-node-test.true in
    let x = get_or gone i first in
    let up : Updates node_cmp c.loop-node.upheld c.remove.new.self x false =
    subst (λ (ns : List Node). Updates node_cmp c.loop-node.upheld c.remove.new.self (get_or ns i first) false)
    c.as_slice-node-items.ensures.keys c.remove.ensures.updates in
    left-less c.args.upheld.now.keys gone c.loop-node.upheld.keys c.remove.new.self.keys i x l
    (get_or_default gone i x first l) c.loop-node.invariant
    (node-removed c.loop-node.upheld c.remove.new.self x up)

pub returns : goal.returns
returns c =
    let gone = c.args.gone.now.keys in
    let i = c.loop-node.node-index in
    let l : length gone ≤ i = subst (λ (ns : List Node). length ns ≤ i) c.as_slice-node-items.ensures.keys
    c.loop-node-test.false in
    let P : List Node → Node → Type 0 =
    λ ns n. Contains c.loop-node.upheld.keys n ↔ IsLeft c.args.upheld.now.keys ns n in
    λ n. subst (λ ns. P ns n) (take_all i gone l) (c.loop-node.invariant n)
