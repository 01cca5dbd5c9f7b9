use Rattle.hg_replica.specs.Content.{Content}
use Rattle.hg_replica.proofs.ContentLemmas.{content-alike}
use Rattle.hg_succ.specs.Successors.{IsSuccessorsSet, IsOverfull, HasSeveral}
use Rattle.hg_succ.proofs.laws.states_of_one_content_have_the_same_successors_sets.Goals as goal

pub returns-clause-sets : goal.returns-clause-sets
returns-clause-sets c s t n set = content-alike (λ (f : Content). IsSuccessorsSet f n set) s t

pub returns-clause-overfull : goal.returns-clause-overfull
returns-clause-overfull c s t n = content-alike (λ (f : Content). IsOverfull f n) s t

pub returns-clause-several : goal.returns-clause-several
returns-clause-several c s t n = content-alike (λ (f : Content). HasSeveral f n) s t
