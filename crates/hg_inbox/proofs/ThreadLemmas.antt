-- Threads may share an inbox, and a seat may go to another thread. Callers that share one cite both.
use denote.RattleType.{RattleType}
use denote.Param.Send.{IsSend, IsSync, sendable, part_keyless}
use Rattle.std.proofs.Crossing.{crosses, frees}
use Rattle.atomic_table.specs.contracts.shared.Seat as pass
use Rattle.atomic_table.proofs.shared.Seat.TheSendSync.{the_send as pass_send}
use Rattle.atomic_table.proofs.shared.Shared.TheSendSync.{the_sync as table_sync}
use Rattle.atomic_table.proofs.send_lease.SendLease.TheSendSync.{the_sync as lease_sync}
use Rattle.hg_inbox.specs.contracts.inbox.Inbox as inbox
use Rattle.hg_inbox.specs.contracts.inbox.Seat as seat

-- behind a `&` nothing can be done with a pass
pass_sync : (S V : RattleType) → IsSend S → IsSync (pass.the_row S V)
pass_sync S V s = record { shared = λ d b o κ q. part_keyless (pass.the_row S V) (pass_send S V s) q d b o }

pub inbox_sync : IsSync inbox.the_row
inbox_sync = search (sendable, crosses, table_sync, lease_sync, pass_sync, frees) depth 40

pub seat_send : IsSend seat.the_row
seat_send = search (sendable, crosses, pass_send, frees) depth 40
