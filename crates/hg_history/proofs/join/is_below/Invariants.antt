use Rattle.hg_phases.specs.State.{state_of}
use Rattle.hg_history.proofs.JoinLemmas.{AreBelowUpTo}
use Rattle.hg_history.proofs.join.is_below.Given as goal

abbrev pub invariant-loop-place : goal.invariant-loop-place
invariant-loop-place l = AreBelowUpTo l.graph l.phases l.place (state_of l.other l.other_phases)
