-- A racer may go to another thread: an inbox may be shared and go there, and so may its seats, and a station of both.
use denote.Param.Send.{IsSend, sendable}
use denote.Param.SendFields.{declared_send}
use Rattle.std.proofs.Crossing.{crosses, frees}
use Rattle.atomic_table.proofs.shared.Seat.TheSendSync.{the_send as pass_send}
use Rattle.atomic_table.proofs.shared.Shared.TheSendSync.{the_send as table_send}
use Rattle.atomic_table.proofs.send_lease.SendLease.TheSendSync.{the_send as lease_send}
use Rattle.hg_inbox.specs.contracts.inbox.Inbox as inbox
use Rattle.hg_inbox.proofs.ThreadLemmas.{inbox_sync, seat_send}
use Rattle.hg_race.specs.contracts.racer.Lane as lane
use Rattle.hg_race.specs.contracts.racer.Racer as racer
use Rattle.hg_race.specs.contracts.station.Station as station

pub inbox_send : IsSend inbox.the_row
inbox_send = search (sendable, crosses, table_send, lease_send, pass_send, frees) depth 40

pub station_send : IsSend station.the_row
station_send = search (sendable, crosses, inbox_send, inbox_sync, seat_send) depth 40

pub lane_send : IsSend lane.the_row
lane_send = search (sendable, crosses) depth 40

pub racer_send : IsSend racer.the_row
racer_send = declared_send racer.the_type (lane_send, (station_send, (station_send, tt)))
