use Rattle.hg_log.proofs.GraphLemmas.{all_clusters, next_cluster, no_cluster}
use Rattle.hg_log.proofs.dot.draw_clusters.Goals as goal

pub loop-node-init : goal.loop-node-init
loop-node-init g c = no_cluster c.args.shows_hidden _

pub loop-node-preserved : goal.loop-node-preserved
loop-node-preserved g c =
    next_cluster c.args.shows_hidden c.args.nodes.now c.loop-node.node-index c.node-item.result _ _ _
    c.loop-node-test.true c.node-item.is c.loop-node.invariant c.in_ok-draw_cluster.ensures

pub returns : goal.returns
returns g c =
    all_clusters c.args.shows_hidden c.args.nodes.now c.loop-node.node-index _ _ c.loop-node-test.false
    c.loop-node.invariant
