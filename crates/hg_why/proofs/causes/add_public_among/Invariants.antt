use Rattle.std.proofs.Common.{take, Contains}
use Rattle.hg_phases.specs.declared.phase.Phase.TheVariants.{Public}
use Rattle.hg_replica.specs.Content.{content_of}
use Rattle.hg_replica.specs.Evolution.{HasPhase}
use Rattle.hg_why.specs.Causes.{Adds, IsByOne}
use Rattle.hg_why.specs.Causes.Cause.{public_before}
use Rattle.hg_why.proofs.causes.add_public_among.Given as goal

abbrev pub invariant-loop-node : goal.invariant-loop-node
invariant-loop-node l = Adds (content_of l.replica) (IsByOne public_before
    (λ p. Contains (take l.node-index l.nodes) p × HasPhase (content_of l.replica) p Public))
    l.fn.reasons.items l.reasons.items
