use Rattle.std.proofs.Common.{◌∙◌, [], ap, false, get_or, replicate, List, subst}
use Rattle.std.proofs.lemmas.List.{get_or_default, take_all}
use Rattle.hg_changeset.specs.declared.node.Node.{Node}
use Rattle.hg_relevant.specs.Search.{IsSearched}
use Rattle.hg_relevant.proofs.RelevantLemmas.{searched-start, searched-node}
use Rattle.hg_relevant.proofs.search.Search.of_nodes.Goals as goal

pub loop-node-init : goal.loop-node-init
loop-node-init c =
    searched-start c.args.store.now c.args.nodes.now c.in_ok-search.search
    (c.in_ok-search.ensures.found ∙ ap (λ n. replicate n false) c.len.ensures)
    (c.in_ok-search.ensures.expanded ∙ ap (λ n. replicate n false) c.len.ensures) c.in_ok-search.ensures.queue

pub loop-node-preserved : goal.loop-node-preserved
loop-node-preserved c =
    let first : Node = record { 0 = [] } in
    let i = c.loop-node.node-index in
    let node = get_or c.args.nodes.now i first in
    searched-node c.args.store.now c.args.nodes.now c.loop-node.search c.expand.new.self i node
    c.loop-node-test.true (get_or_default c.args.nodes.now i node first c.loop-node-test.true)
    c.loop-node.invariant c.in_ok-expand.ensures

pub returns : goal.returns
returns c =
    subst (λ (ns : List Node). IsSearched c.args.store.now c.args.nodes.now ns c.loop-node.search 0)
    (take_all c.loop-node.node-index c.args.nodes.now c.loop-node-test.false) c.loop-node.invariant
