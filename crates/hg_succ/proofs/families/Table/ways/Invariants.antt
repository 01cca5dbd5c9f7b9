use Rattle.std.proofs.Common.{take}
use Rattle.hg_succ.specs.Factors.{HasWays}
use Rattle.hg_succ.proofs.families.Table.ways.Given as goal

abbrev pub invariant-loop-node : goal.invariant-loop-node
invariant-loop-node l = HasWays l.self (take l.node-index l.nodes) l.product
