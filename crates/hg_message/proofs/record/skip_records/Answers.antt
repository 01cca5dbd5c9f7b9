use Rattle.std.proofs.Common.{◌++◌, [], ◌∷◌, refl, arith}
use Rattle.std.specs.Option.{option_copied}
use Rattle.hg_obsstore.proofs.FormatLemmas.{left_ok, left_err}
use Rattle.hg_message.specs.Counted.{counted}
use Rattle.hg_message.specs.Record.{record_at}
use Rattle.hg_message.proofs.CountedLemmas.{starts, goes_on, breaks_off, is_done}
use Rattle.hg_message.proofs.PartLemmas.{both_known, known_more}
use Rattle.hg_message.proofs.record.skip_records.Goals as goal

pub loop-index-init : goal.loop-index-init
loop-index-init c =
    ([], starts (record_at c.args.total) c.args.count c.args.bytes.now [] refl, λ _ d at. absurd (omega (arith, at.1)))

pub returns-in-Err : goal.returns-in-Err
returns-in-Err c =
    breaks_off (record_at c.args.total) c.args.count c.loop-index.index c.loop-index.invariant.0 c.loop-index.rest.now
    (counted (record_at c.args.total) 0 c.args.count c.args.bytes.now) c.in-Err.fault c.loop-index-test.true
    (left_err (record_at c.args.total c.loop-index.index c.loop-index.rest.now) c.in-Err.fault c.in-Err.ensures.exact)
    c.loop-index.invariant.1

pub loop-index-preserved : goal.loop-index-preserved
loop-index-preserved c =
    let read = left_ok (record_at c.args.total c.loop-index.index c.loop-index.rest.now) c.in-Ok.after.now
    c.in-Ok.ensures.exact in (
      c.loop-index.invariant.0 ++ read.0 ∷ [],
      goes_on (record_at c.args.total) c.args.count c.loop-index.index
          c.loop-index.invariant.0 c.loop-index.rest.now (counted
          (record_at c.args.total) 0 c.args.count c.args.bytes.now) read.0 c.in-Ok.after.now c.loop-index-test.true
          read.1 c.loop-index.invariant.1,
      λ both. let known = both_known c.loop-index.are_known c.in-Ok.seen.is_known both in
          known_more (option_copied c.args.held) c.loop-index.invariant.0 read.0 (c.loop-index.invariant.2 known.0)
          (c.in-Ok.ensures.known known.1 read.0 c.in-Ok.after.now read.1),
    )

pub returns : goal.returns
returns c = (
  c.loop-index.invariant.0,
  is_done (record_at c.args.total) c.args.count c.loop-index.index
      c.loop-index.invariant.0 c.loop-index.rest.now (counted
      (record_at c.args.total) 0 c.args.count c.args.bytes.now) c.loop-index-test.false c.loop-index.invariant.1,
  c.loop-index.invariant.2,
)
