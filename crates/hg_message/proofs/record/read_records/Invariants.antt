use Rattle.std.proofs.Common.{◌≡◌, ◌-◌}
use Rattle.hg_message.specs.Counted.{counted}
use Rattle.hg_message.specs.Record.{record_at}
use Rattle.hg_message.proofs.CountedLemmas.{with_front}
use Rattle.hg_message.proofs.record.read_records.Given as goal

-- the changesets, with what is left to read, are all that there is
abbrev pub invariant-loop-index : goal.invariant-loop-index
invariant-loop-index l =
    with_front l.changesets.items (counted (record_at l.total) l.index (l.count - l.index) l.rest) ≡ counted
    (record_at l.total) 0 l.count l.bytes
