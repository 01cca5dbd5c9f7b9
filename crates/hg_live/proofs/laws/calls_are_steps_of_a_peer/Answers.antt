use Rattle.hg_live.proofs.StepLemmas.{decided_alone, taken_alone, marked_alone}
use Rattle.hg_live.proofs.laws.calls_are_steps_of_a_peer.Goals as goal

pub returns-clause-local : goal.returns-clause-local
returns-clause-local c before after op entry so next = decided_alone before after op entry so next

pub returns-clause-take : goal.returns-clause-take
returns-clause-take c before after bytes entry valid so next = taken_alone before after bytes entry valid so next

pub returns-clause-mark : goal.returns-clause-mark
returns-clause-mark c before after mark entry so next = marked_alone before after mark entry so next
