use Rattle.std.proofs.Common.{false}
use Rattle.std.specs.Prelude.{codes}
use Rattle.hg_log.specs.Json.{id_text}
use Rattle.hg_log.proofs.JsonLemmas.{divided_next}
use Rattle.hg_log.proofs.json.push_each_id.Goals as goal

pub loop-node-preserved : goal.loop-node-preserved
loop-node-preserved c =
    divided_next false (codes ", ") id_text c.args.nodes.now c.loop-node.node-index _ _ _ _ _ _ _ c.loop-node-test.true
    c.loop-node.invariant c.in_ok-push_divider.ensures.divider c.in_ok-push_id.ensures
    c.in_ok-push_divider.ensures.behind
