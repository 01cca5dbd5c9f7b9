use Rattle.std.proofs.Common.{◌++◌, [], ◌∷◌, refl}
use Rattle.hg_message.specs.Counted.{counted}
use Rattle.hg_message.specs.Bound.{bound_at}
use Rattle.hg_message.proofs.CountedLemmas.{starts, goes_on, breaks_off, is_done}
use Rattle.hg_message.proofs.bound.skip_bounds.Goals as goal

pub loop-init : goal.loop-init
loop-init c = ([], starts (λ _. bound_at c.args.total) c.args.count c.args.bytes.now [] refl)

pub returns-in-Err : goal.returns-in-Err
returns-in-Err c =
    breaks_off (λ _. bound_at c.args.total) c.args.count c.loop.counter c.loop.invariant.0 c.loop.rest.now
    (counted (λ _. bound_at c.args.total) 0 c.args.count c.args.bytes.now) c.in-Err.fault c.loop-test.true
    c.in-Err.ensures c.loop.invariant.1

pub loop-preserved : goal.loop-preserved
loop-preserved c = (
  c.loop.invariant.0 ++ c.in-Ok.field-0-0 ∷ [],
  goes_on (λ _. bound_at c.args.total) c.args.count c.loop.counter
      c.loop.invariant.0 c.loop.rest.now (counted (λ _. bound_at c.args.total) 0 c.args.count c.args.bytes.now)
      c.in-Ok.field-0-0 c.in-Ok.after.now c.loop-test.true c.in-Ok.ensures c.loop.invariant.1,
)

pub returns : goal.returns
returns c = (
  c.loop.invariant.0,
  is_done (λ _. bound_at c.args.total) c.args.count c.loop.counter c.loop.invariant.0
      c.loop.rest.now (counted (λ _. bound_at c.args.total) 0 c.args.count c.args.bytes.now) c.loop-test.false
      c.loop.invariant.1,
)
