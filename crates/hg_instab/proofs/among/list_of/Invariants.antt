use Rattle.std.proofs.Common.{◌≡◌, ◌++◌}
use Rattle.hg_instab.proofs.among.list_of.Given as goal

abbrev pub invariant-loop-node : goal.invariant-loop-node
invariant-loop-node l = l.list.items ++ l.node-iterator ≡ l.set.keys
