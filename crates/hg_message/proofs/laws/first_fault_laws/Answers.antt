use Rattle.hg_message.proofs.FirstFaultLemmas.{fault_is_first, first_fault_is_met}
use Rattle.hg_message.proofs.laws.first_fault_laws.Goals as goal

pub returns-clause-first : goal.returns-clause-first
returns-clause-first c bytes fault fits e = fault_is_first bytes fault fits e

pub returns-clause-met : goal.returns-clause-met
returns-clause-met c bytes fault fits h = first_fault_is_met bytes fault fits h
