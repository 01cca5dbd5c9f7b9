use Rattle.std.proofs.Common.{ap}
use Rattle.hg_message.specs.Counted.{counted, first_of}
use Rattle.hg_message.specs.Record.{record_at}
use Rattle.hg_message.proofs.CountedLemmas.{starts, goes_on, is_done, next_is_read}
use Rattle.hg_message.proofs.record.read_records.Goals as goal

pub loop-index-init : goal.loop-index-init
loop-index-init c = starts (record_at c.args.total) c.args.count c.args.bytes.now c.in_ok-changesets.changesets.items
    c.in_ok-changesets.ensures.items

pub read_record-requires : goal.read_record-requires
read_record-requires c =
    next_is_read (record_at c.args.total) c.args.count c.loop-index.index c.loop-index.changesets.items
    c.loop-index.rest.now (counted (record_at c.args.total) 0 c.args.count c.args.bytes.now)
    c.loop-index-test.true c.requires c.loop-index.invariant

pub loop-index-preserved : goal.loop-index-preserved
loop-index-preserved c =
    rw c.in_ok-push.ensures.items
    (goes_on (record_at c.args.total) c.args.count c.loop-index.index c.loop-index.changesets.items
    c.loop-index.rest.now (counted (record_at c.args.total) 0 c.args.count c.args.bytes.now)
    c.in_ok-changeset.changeset c.in_ok-changeset.after.now c.loop-index-test.true
    c.in_ok-changeset.ensures c.loop-index.invariant)

pub returns-clause-read : goal.returns-clause-read
returns-clause-read c =
    ap first_of (is_done (record_at c.args.total) c.args.count c.loop-index.index c.loop-index.changesets.items
    c.loop-index.rest.now (counted (record_at c.args.total) 0 c.args.count c.args.bytes.now)
    c.loop-index-test.false c.loop-index.invariant)
