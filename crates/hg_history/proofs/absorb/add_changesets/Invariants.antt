use Rattle.hg_history.specs.Steps.{IsAdded}
use Rattle.hg_history.proofs.absorb.add_changesets.Given as goal

abbrev pub invariant-loop-changeset : goal.invariant-loop-changeset
invariant-loop-changeset l = IsAdded l.fn.graph l.fn.phases l.changesets l.changeset-index l.graph l.phases
