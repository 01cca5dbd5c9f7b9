use denote.Param.Send.{sendable}
use Rattle.std.proofs.Crossing.{crosses}
use Rattle.hg_inbox.proofs.ThreadLemmas.{inbox_sync, seat_send}
use Rattle.hg_live_tests.proofs.inboxes.trade_side_by_side.Goals as goal

pub join-one-requires-send-F : goal.join-one-requires-send-F
join-one-requires-send-F g c κs within =
    let inbox = inbox_sync in
    let seat = seat_send in
    let runtime = c.type_bounds.sync-R in search (sendable, crosses) depth 40
