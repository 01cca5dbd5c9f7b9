use Rattle.std.proofs.Common.{ap, Some}
use Rattle.hg_discovery.specs.declared.finding.Finding.TheVariants.{Common}
use Rattle.std.proofs.Common.{◌∙◌}
use Rattle.hg_discovery.proofs.WalkLemmas.{Grows-wider}
use Rattle.hg_discovery.proofs.spread.decide_parent.Goals as goal

pub returns-in_err-decide-in-Some-clause-grows : goal.returns-in_err-decide-in-Some-clause-grows
returns-in_err-decide-in-Some-clause-grows c = Grows-wider Common _ _ _ _ _ _
    (λ k e. c.in-Some.is ∙ ap (λ p. Some p) e) c.decide.ensures.grows

pub returns-in_ok-decide-in-Some-clause-grows : goal.returns-in_ok-decide-in-Some-clause-grows
returns-in_ok-decide-in-Some-clause-grows c = Grows-wider Common _ _ _ _ _ _
    (λ k e. c.in-Some.is ∙ ap (λ p. Some p) e) c.decide.ensures.grows
