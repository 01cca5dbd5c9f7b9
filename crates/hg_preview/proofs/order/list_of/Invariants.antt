use Rattle.std.proofs.Common.{◌≡◌, ◌++◌}
use Rattle.hg_preview.proofs.order.list_of.Given as goal

abbrev pub invariant-loop-node : goal.invariant-loop-node
invariant-loop-node l = l.nodes.items ++ l.node-iterator ≡ l.set.keys
