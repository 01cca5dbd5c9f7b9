use Rattle.std.proofs.Common.{codes}
use Rattle.hg_replica.specs.Content.{content_of}
use Rattle.hg_why.specs.Names.{name_of}
use Rattle.hg_why.proofs.DividerLemmas.{next_appended, none_appended}
use Rattle.hg_why.proofs.fate_line.push_each_name.Goals as goal

pub loop-node-init : goal.loop-node-init
loop-node-init c = none_appended (codes " ") (name_of (content_of c.args.replica.now)) c.args.line.now.items

pub loop-node-preserved : goal.loop-node-preserved
loop-node-preserved c = next_appended (codes " ") (name_of (content_of c.args.replica.now)) c.args.nodes.now
    c.loop-node.node-index _ _ _ _ _ _ c.loop-node-test.true c.loop-node.invariant
    c.in_ok-push_text.ensures c.in_ok-push_name.ensures
