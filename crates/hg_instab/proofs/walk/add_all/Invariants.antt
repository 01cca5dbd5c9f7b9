use Rattle.std.proofs.Common.{take, Contains}
use Rattle.hg_instab.specs.Walk.{Adds}
use Rattle.hg_instab.proofs.walk.add_all.Given as goal

abbrev pub invariant-loop-node : goal.invariant-loop-node
invariant-loop-node l = Adds (Contains (take l.node-index l.nodes)) l.fn.seen.keys l.seen.keys
