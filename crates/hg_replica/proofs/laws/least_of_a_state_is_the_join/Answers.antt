use Rattle.hg_replica.proofs.LeastLemmas.{join-least, least-itself}
use Rattle.hg_replica.proofs.laws.least_of_a_state_is_the_join.Goals as goal

pub returns-clause-first : goal.returns-clause-first
returns-clause-first c s t u l = (join-least s t u l).0

pub returns-clause-second : goal.returns-clause-second
returns-clause-second c s t u l = (join-least s t u l).1

pub returns-clause-below_each : goal.returns-clause-below_each
returns-clause-below_each c s t u v l valid above_s above_t = (join-least s t u l).2 v valid above_s above_t

pub returns-clause-idempotent : goal.returns-clause-idempotent
returns-clause-idempotent c s valid = least-itself s valid
