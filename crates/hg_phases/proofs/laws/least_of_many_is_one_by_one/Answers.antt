use Rattle.hg_phases.proofs.FormLemmas.{least-one_by_one, least-either}
use Rattle.hg_phases.proofs.LeastLemmas.{least-then}
use Rattle.hg_phases.proofs.LawLemmas.{least-swap, least-again}
use Rattle.hg_phases.proofs.laws.least_of_many_is_one_by_one.Goals as goal

pub returns-clause-one_by_one : goal.returns-clause-one_by_one
returns-clause-one_by_one c s t ks valid h = least-one_by_one s ks t valid h

pub returns-clause-after_others : goal.returns-clause-after_others
returns-clause-after_others c s t u ks ls first next = least-then s ks ls t u first next

pub returns-clause-any_order : goal.returns-clause-any_order
returns-clause-any_order c s t ks ls l = least-swap s ks ls t l

pub returns-clause-swap : goal.returns-clause-swap
returns-clause-swap c s t u v w k l valid first next other last = least-either s t u v w k l valid first next other last

pub returns-clause-again : goal.returns-clause-again
returns-clause-again c s t ks l = least-again s ks t l
