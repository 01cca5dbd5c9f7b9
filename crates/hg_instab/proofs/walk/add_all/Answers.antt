use Rattle.std.proofs.Common.{get_or, []}
use Rattle.std.proofs.lemmas.List.{get_or_default}
use Rattle.hg_changeset.specs.declared.node.Node.{Node}
use Rattle.hg_instab.proofs.WalkLemmas.{adds-more}
use Rattle.hg_instab.proofs.walk.add_all.Goals as goal

pub loop-node-preserved : goal.loop-node-preserved
loop-node-preserved c =
    let first : Node = record { 0 = [] } in
    let node = get_or c.args.nodes.now c.loop-node.node-index first in
    adds-more c.args.nodes.now c.loop-node.node-index node c.args.seen.now.keys c.loop-node.seen.keys
    c.insert.new.self.keys c.loop-node-test.true
    (get_or_default c.args.nodes.now c.loop-node.node-index node first c.loop-node-test.true) c.loop-node.invariant
    c.in_ok-insert.ensures.keys
