use Rattle.hg_succ.specs.Plan.{AreSeen}
use Rattle.hg_succ.proofs.ranges.Ranges.see_all.Given as goal

abbrev pub invariant-loop-closed : goal.invariant-loop-closed
invariant-loop-closed l = AreSeen l.replica l.ranks l.nodes.keys l.order l.closed-index l.self
