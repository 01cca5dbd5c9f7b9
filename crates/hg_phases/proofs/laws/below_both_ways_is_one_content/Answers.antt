use Rattle.hg_phases.proofs.FormLemmas.{Below-itself, Below-then}
use Rattle.hg_phases.proofs.ContentLemmas.{content-same, same_from_content, least-unordered}
use Rattle.hg_phases.proofs.laws.below_both_ways_is_one_content.Goals as goal

pub returns-clause-itself : goal.returns-clause-itself
returns-clause-itself c s = Below-itself s

pub returns-clause-then : goal.returns-clause-then
returns-clause-then c s t u first next = Below-then s t u first next

pub returns-clause-content : goal.returns-clause-content
returns-clause-content c s t s_valid t_valid = (
  λ same. content-same s t s_valid.graph t_valid.graph same,
  λ e. same_from_content s t s_valid.graph t_valid.graph e,
)

pub returns-clause-unordered : goal.returns-clause-unordered
returns-clause-unordered c s t u v ks s_valid t_valid v_valid same_below same_above l =
    least-unordered s t u v ks s_valid.graph t_valid.graph v_valid.graph same_below same_above l
