use Rattle.std.proofs.Common.{◌≡◌}
use Rattle.hg_live_tests.proofs.inboxes.trade.Given as goal

abbrev pub invariant-loop : goal.invariant-loop
invariant-loop g l = l.seat.inbox ≡ l.inbox.name
