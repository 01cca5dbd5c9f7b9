use Rattle.hg_replica.proofs.LeastLemmas.{least-one_by_one, least-then, least-swap, least-either, least-again}
use Rattle.hg_replica.proofs.laws.least_of_many_is_one_by_one.Goals as goal

pub returns-clause-one_by_one : goal.returns-clause-one_by_one
returns-clause-one_by_one c s t ks valid h = least-one_by_one s t ks valid h

pub returns-clause-after_others : goal.returns-clause-after_others
returns-clause-after_others c s t u ks ls first next = least-then s t u ks ls first next

pub returns-clause-any_order : goal.returns-clause-any_order
returns-clause-any_order c s t ks ls l = least-swap s t ks ls l

pub returns-clause-swap : goal.returns-clause-swap
returns-clause-swap c s t u v w k l valid first next other last = least-either s t u v w k l valid first next other last

pub returns-clause-again : goal.returns-clause-again
returns-clause-again c s t ks l = least-again s t ks l
