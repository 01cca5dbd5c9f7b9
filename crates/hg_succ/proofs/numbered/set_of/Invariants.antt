use Rattle.std.proofs.Common.{take, Contains}
use Rattle.hg_changeset.specs.declared.node.Node.{Node}
use Rattle.hg_succ.proofs.numbered.set_of.Given as goal

abbrev pub invariant-loop-node : goal.invariant-loop-node
invariant-loop-node l = (n : Node) → Contains (take l.node-index l.nodes) n → Contains l.set.keys n
