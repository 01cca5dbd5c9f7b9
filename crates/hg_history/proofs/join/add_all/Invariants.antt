use Rattle.hg_history.specs.Steps.{IsAdded}
use Rattle.hg_history.proofs.join.add_all.Given as goal

abbrev pub invariant-loop-place : goal.invariant-loop-place
invariant-loop-place l = IsAdded l.fn.graph l.fn.phases l.other l.place l.graph l.phases
