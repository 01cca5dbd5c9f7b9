use Rattle.std.proofs.Common.{refl}
use Rattle.hg_history.specs.declared.fault.Fault.TheVariants.{NoMemory}
use Rattle.hg_history.proofs.GrowthLemmas.{refused_along}
use Rattle.hg_replica.specs.Answer.{OpenAnswer}
use Rattle.hg_replica.proofs.replica.Replica.open.Goals as goal

pub returns-in-Ok-clause-answer : goal.returns-in-Ok-clause-answer
unfolding OpenAnswer
returns-in-Ok-clause-answer c = (c.in-Ok.ensures.answer, refl)

pub returns-in-Err-clause-answer : goal.returns-in-Err-clause-answer
unfolding OpenAnswer
returns-in-Err-clause-answer c = c.in-Err.ensures.answer

pub returns-in-Err-clause-memory : goal.returns-in-Err-clause-memory
returns-in-Err-clause-memory c is = c.in-Err.ensures.memory (refused_along c.in-Err.fault NoMemory is)
