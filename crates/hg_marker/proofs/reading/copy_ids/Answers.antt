use Rattle.hg_marker.proofs.NodesLemmas.{copy_goes_on, room_left}
use Rattle.hg_marker.proofs.reading.copy_ids.Goals as goal

pub loop-preserved : goal.loop-preserved
loop-preserved c = (
  room_left c.args.count c.loop.counter c.loop.rest.now c.split_id.result.1.now c.loop-test.true c.split_id.ensures.rest
      c.loop.invariant.0,
  rw c.in_ok-push.ensures.ok
      (copy_goes_on c.args.count c.loop.counter c.args.ids.now c.loop.rest.now c.split_id.result.1.now
      c.loop.nodes.items c.split_id.result.0 c.loop-test.true c.split_id.ensures.id c.split_id.ensures.rest
      c.loop.invariant.1),
)
