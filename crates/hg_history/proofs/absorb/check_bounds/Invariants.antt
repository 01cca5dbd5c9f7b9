use Rattle.hg_history.specs.Answer.{AreHeldUpTo}
use Rattle.hg_history.proofs.absorb.check_bounds.Given as goal

abbrev pub invariant-loop-bound : goal.invariant-loop-bound
invariant-loop-bound l = AreHeldUpTo l.graph l.bounds l.bound-index
