use Rattle.hg_log.proofs.EntryLemmas.{all_nodes, next_node}
use Rattle.hg_log.proofs.objects.draw_nodes.Goals as goal

pub loop-node-preserved : goal.loop-node-preserved
loop-node-preserved g c =
    next_node c.args.shows_hidden c.args.nodes.now c.loop-node.node-index c.node-item.result _ _ _ _ _
    c.loop-node-test.true c.node-item.is c.loop-node.invariant c.in_ok-draw_node.ensures

pub returns : goal.returns
returns g c =
    all_nodes c.args.shows_hidden c.args.nodes.now c.loop-node.node-index _ _ _ c.loop-node-test.false
    c.loop-node.invariant
