use Rattle.std.proofs.Common.{rules, arith, ◌≡◌, ◌<◌, ◌++◌, [], ◌∷◌, length}
use Rattle.hg_obsstore.specs.Faults.{markers_at, placed_marker}
use Rattle.hg_obsstore.proofs.FormatLemmas.{with_none, goes_on, breaks_off, ends, is_read, left_ok, left_err}
use Rattle.hg_obsstore.proofs.format.check_rest.Goals as goal

pub loop-rest-init : goal.loop-rest-init
loop-rest-init c = (
  [],
  length c.args.bytes.now,
  omega arith,
  with_none (markers_at c.args.total (length c.args.bytes.now) c.args.bytes.now),
)

pub returns-in-Err : goal.returns-in-Err
returns-in-Err c =
    let more : 0 < length c.loop-rest.rest.now = search rules in
    breaks_off _ _ _ _ _ _ more c.loop-rest.invariant.2 (left_err _ _ c.in-Err.ensures.after) c.loop-rest.invariant.3

pub loop-rest-preserved : goal.loop-rest-preserved
loop-rest-preserved c =
    let read = left_ok _ _ c.in-Ok.ensures.after in
    let more = goes_on _ _ _ _ _ _ _ c.in-Ok.ensures.shorter c.loop-rest.invariant.2 read.1 c.loop-rest.invariant.3 in
    (c.loop-rest.invariant.0 ++ read.0 ∷ [], more.0, more.1, more.2)

pub returns : goal.returns
returns c =
    let none : length c.loop-rest.rest.now ≡ 0 = search rules in
    is_read _ _ (ends _ _ _ _ _ none c.loop-rest.invariant.3)
