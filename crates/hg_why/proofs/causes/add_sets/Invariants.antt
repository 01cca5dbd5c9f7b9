use Rattle.std.proofs.Common.{take, Contains}
use Rattle.hg_replica.specs.Content.{content_of}
use Rattle.hg_why.specs.Causes.{Adds, IsByOne}
use Rattle.hg_why.specs.Causes.Cause.{several_before}
use Rattle.hg_why.proofs.causes.add_sets.Given as goal

abbrev pub invariant-loop-node : goal.invariant-loop-node
invariant-loop-node l = Adds (content_of l.replica) (IsByOne several_before
    (λ p. Contains (take l.node-index l.nodes) p × Unit {0})) l.fn.reasons.items l.reasons.items
