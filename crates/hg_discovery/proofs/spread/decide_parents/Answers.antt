use Rattle.std.proofs.Common.{inl, inr}
use Rattle.hg_discovery.specs.declared.finding.Finding.TheVariants.{Common}
use Rattle.hg_discovery.specs.Under.{IsOneOf}
use Rattle.hg_discovery.proofs.WalkLemmas.{Grows-wider, Grows-then}
use Rattle.hg_discovery.proofs.spread.decide_parents.Goals as goal

pub returns-in_err-decide_parent-clause-grows : goal.returns-in_err-decide_parent-clause-grows
returns-in_err-decide_parent-clause-grows c = Grows-wider Common _ _ _ _ _ _
    (λ k e. inl e) c.decide_parent.ensures.grows

pub returns-in_err-decide_parent-2-clause-grows : goal.returns-in_err-decide_parent-2-clause-grows
returns-in_err-decide_parent-2-clause-grows c =
    Grows-then Common (IsOneOf c.args.parents) _ _ _ _ _ _ (Grows-wider Common _ _ _ _ _ _
    (λ k e. inl e) c.decide_parent.ensures.grows) (Grows-wider Common _ _ _ _ _ _
    (λ k e. inr e) c.decide_parent-2.ensures.grows)

pub returns-clause-grows : goal.returns-clause-grows
returns-clause-grows c =
    Grows-then Common (IsOneOf c.args.parents) _ _ _ _ _ _ (Grows-wider Common _ _ _ _ _ _
    (λ k e. inl e) c.decide_parent.ensures.grows) (Grows-wider Common _ _ _ _ _ _
    (λ k e. inr e) c.decide_parent-2.ensures.grows)
