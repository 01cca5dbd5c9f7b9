use Rattle.std.proofs.Common.{◌≡◌, ◌-◌, List}
use Rattle.std.specs.Prelude.{IsTrue}
use Rattle.std.specs.Option.{option_copied}
use Rattle.hg_changeset.specs.Contents.{Contents}
use Rattle.hg_message.specs.Record.{record_at}
use Rattle.hg_message.specs.Counted.{counted}
use Rattle.hg_message.specs.Known.{AreKnownAt}
use Rattle.hg_message.proofs.CountedLemmas.{with_front}
use Rattle.hg_message.proofs.record.skip_records.Given as goal

-- some changesets, with what is left to check, are all that there is, and where it is so they are known
abbrev pub invariant-loop-index : goal.invariant-loop-index
invariant-loop-index l = (front : List Contents)
    × (with_front front (counted (record_at l.total) l.index (l.count - l.index) l.rest) ≡ counted
    (record_at l.total) 0 l.count l.bytes)
    × (IsTrue l.are_known → AreKnownAt (option_copied l.held) front)
