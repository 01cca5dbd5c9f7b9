use Rattle.std.proofs.Common.{ap}
use Rattle.hg_message.specs.Counted.{counted, first_of}
use Rattle.hg_message.specs.Bound.{bound_at}
use Rattle.hg_message.proofs.CountedLemmas.{starts, goes_on, is_done}
use Rattle.hg_message.proofs.bound.read_bounds.Goals as goal

pub loop-init : goal.loop-init
loop-init c = starts (λ _. bound_at c.args.total) c.args.count c.args.bytes.now c.in_ok-bounds.bounds.items
    c.in_ok-bounds.ensures.items

pub loop-preserved : goal.loop-preserved
loop-preserved c =
    rw c.in_ok-push-in-Ok.ensures.items
    (goes_on (λ _. bound_at c.args.total) c.args.count c.loop.counter c.loop.bounds.items c.loop.rest.now
    (counted (λ _. bound_at c.args.total) 0 c.args.count c.args.bytes.now) c.in-Ok.bound c.in-Ok.after.now
    c.loop-test.true c.in-Ok.ensures c.loop.invariant)

pub returns-clause-read : goal.returns-clause-read
returns-clause-read c =
    ap first_of (is_done (λ _. bound_at c.args.total) c.args.count c.loop.counter c.loop.bounds.items c.loop.rest.now
    (counted (λ _. bound_at c.args.total) 0 c.args.count c.args.bytes.now) c.loop-test.false c.loop.invariant)
