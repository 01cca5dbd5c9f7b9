use Rattle.hg_phases.specs.State.{changesets}
use Rattle.hg_history.proofs.FaultLemmas.{no_fault, one_fault}
use Rattle.hg_history.proofs.FirstFaultLemmas.{admitted_or_fault}
use Rattle.hg_history.proofs.laws.first_fault_is_one.Goals as goal

pub returns-clause-none : goal.returns-clause-none
returns-clause-none c s k fault admitted h = no_fault s k admitted fault h

pub returns-clause-one : goal.returns-clause-one
returns-clause-one c s k fault other h g = one_fault (changesets s) k fault other h g

pub returns-clause-some : goal.returns-clause-some
returns-clause-some c = admitted_or_fault
