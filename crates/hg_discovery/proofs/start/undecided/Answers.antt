use Rattle.std.proofs.Common.{◌<◌, [], arith, get_or}
use Rattle.std.proofs.lemmas.List.Elements.{Contains-get_or}
use Rattle.hg_discovery.specs.declared.finding.PlacedNode.{PlacedNode}
use Rattle.hg_discovery.proofs.StartLemmas.{AreUndecidedTo-more}
use Rattle.hg_discovery.proofs.start.undecided.Goals as goal

pub index_mut-requires : goal.index_mut-requires
index_mut-requires c =
    let none : PlacedNode = record { node = record { 0 = [] }; place = 0 } in
    let x = get_or c.args.placed_nodes.now c.loop-placed_node.placed_node-index none in
    let within : x.place < c.args.len =
    c.requires x
    (Contains-get_or c.args.placed_nodes.now c.loop-placed_node.placed_node-index none
    c.loop-placed_node-test.true) in
    omega (arith, within, c.loop-placed_node.invariant.length_is, c.loop-placed_node.decided.ok.0)

pub loop-placed_node-preserved : goal.loop-placed_node-preserved
loop-placed_node-preserved c =
    let none : PlacedNode = record { node = record { 0 = [] }; place = 0 } in
    let x = get_or c.args.placed_nodes.now c.loop-placed_node.placed_node-index none in
    let within : x.place < c.args.len =
    c.requires x
    (Contains-get_or c.args.placed_nodes.now c.loop-placed_node.placed_node-index none
    c.loop-placed_node-test.true) in
    AreUndecidedTo-more c.args.len c.loop-placed_node.placed_node-index c.args.placed_nodes.now none
    c.loop-placed_node.decided.items
    c.loop-placed_node-test.true within c.loop-placed_node.invariant
