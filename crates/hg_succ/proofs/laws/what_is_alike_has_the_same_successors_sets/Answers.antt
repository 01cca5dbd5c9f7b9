use Rattle.std.proofs.Common.{Contains}
use Rattle.hg_replica.specs.Content.{content_of}
use Rattle.hg_succ.proofs.AlikeLemmas.{same_sets, same_overfull, same_several}
use Rattle.hg_succ.proofs.laws.what_is_alike_has_the_same_successors_sets.Goals as goal

pub returns-clause-sets : goal.returns-clause-sets
returns-clause-sets c s t ns n set alike in' = same_sets (Contains ns) (content_of s) (content_of t) alike n set in'

pub returns-clause-overfull : goal.returns-clause-overfull
returns-clause-overfull c s t ns n alike in' = same_overfull (Contains ns) (content_of s) (content_of t) alike n in'

pub returns-clause-several : goal.returns-clause-several
returns-clause-several c s t ns n alike in' = same_several (Contains ns) (content_of s) (content_of t) alike n in'
