use Rattle.hgfleet.proofs.CommandLemmas.{next_state, no_state}
use Rattle.hgfleet.proofs.commands.named_nodes.Goals as goal

pub loop-name-preserved : goal.loop-name-preserved
loop-name-preserved c =
    next_state c.args.fleet.now c.args.names.now c.loop-name.name-index _ _ _ _ c.loop-name-test.true
    c.in_ok-push_node.ensures c.loop-name.invariant

pub returns : goal.returns
returns c =
    no_state c.args.fleet.now c.args.names.now c.loop-name.name-index _ _ c.loop-name-test.false c.loop-name.invariant
