use Rattle.std.proofs.Common.{◌≡◌, ◌+◌, ◌++◌, length, All}
use Rattle.crossbeam_queue.specs.Passes.{view, IsSamePass}
use Rattle.hg_inbox.specs.Views.{all_puts, all_takes, EachAscends}
use Rattle.hg_inbox.proofs.inbox.gather.Given as goal

abbrev pub invariant-loop-seat : goal.invariant-loop-seat
invariant-loop-seat l = record {
  same : IsSamePass l.fn.origin l.origin;
  seats : All (λ seat. seat.inbox ≡ l.queue.table.shared.table_id) l.seat-iterator.rest.items;
  parts : (view l.origin).parts + length l.seat-iterator.rest.items ≡ (view l.fn.origin).parts
      + length l.fn.seats.items;
  puts : (view l.origin).puts ++ all_puts l.seat-iterator.rest.items ≡ (view l.fn.origin).puts
      ++ all_puts l.fn.seats.items;
  numbers : EachAscends l.seat-iterator.rest.items → EachAscends l.fn.seats.items;
  takes : (view l.origin).takes ++ all_takes l.seat-iterator.rest.items ≡ (view l.fn.origin).takes
      ++ all_takes l.fn.seats.items;
}
