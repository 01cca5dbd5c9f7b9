use Rattle.std.proofs.Common.{[]}
use Rattle.hg_phases.specs.declared.phase.Phase.TheVariants.{Public}
use Rattle.hg_message.specs.Spelling.{HasNode, bound_layout}
use Rattle.hg_message.proofs.WritingLemmas.{writes_on, each_goes_on}
use Rattle.hg_message.proofs.writing.write_bounds.Goals as goal

pub loop-bound-preserved : goal.loop-bound-preserved
loop-bound-preserved c = (
  writes_on bound_layout c.args.bounds.now c.loop-bound.bound-index
      (record { 0 = [] }, Public) c.args.out.now.items c.loop-bound.out.items c.write_bound.new.out.items
      c.loop-bound-test.true c.loop-bound.invariant.0 c.in_ok-write_bound.ensures.written,
  each_goes_on HasNode c.args.bounds.now c.loop-bound.bound-index
      (record { 0 = [] }, Public) c.loop-bound-test.true c.loop-bound.invariant.1 c.in_ok-write_bound.ensures.node,
)
