use Rattle.hg_log.specs.Drawings.{Extends}
use Rattle.hg_why.proofs.named.push_successors.Given as goal

abbrev pub invariant-loop-node : goal.invariant-loop-node
invariant-loop-node l = Extends l.initial.line.items l.line.items
