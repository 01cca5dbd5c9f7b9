use Rattle.hg_instab.proofs.TurnLemmas.{put-in}
use Rattle.hg_instab.proofs.turn.put.Goals as goal

pub returns-clause-ok : goal.returns-clause-ok
returns-clause-ok c = put-in c.args.set.now c.insert.new.self c.args.node c.in_ok-came.came c.is_in_order.ensures
    c.in_ok-came.ensures.added c.in_ok-came.ensures.updates c.in_ok-came.ensures.unchanged
