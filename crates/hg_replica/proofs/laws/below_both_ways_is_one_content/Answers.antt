use Rattle.hg_replica.proofs.LeastLemmas.{below-itself, below-then, least-unordered}
use Rattle.hg_replica.proofs.ContentLemmas.{content-same, same_from_content}
use Rattle.hg_replica.proofs.laws.below_both_ways_is_one_content.Goals as goal

pub returns-clause-itself : goal.returns-clause-itself
returns-clause-itself c s = below-itself s

pub returns-clause-then : goal.returns-clause-then
returns-clause-then c s t u first next = below-then s t u first next

pub returns-clause-content : goal.returns-clause-content
returns-clause-content c s t v w = (content-same s t v w, same_from_content s t v w)

pub returns-clause-unordered : goal.returns-clause-unordered
returns-clause-unordered c s t u v ks s_valid t_valid v_valid same_below same_above l =
    least-unordered s t u v ks s_valid t_valid v_valid same_below same_above l
