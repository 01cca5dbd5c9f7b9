use Rattle.std.proofs.Common.{◌∷◌, [], Contains, true≢false, sym, subst, ◌∙◌}
use Rattle.std.proofs.lemmas.Result.{IfOk-weaker}
use Rattle.hg_changeset.proofs.ListLemmas.{Contains-none, Contains-first, Contains-one}
use Rattle.hg_instab.proofs.amend.heirs.Goals as goal

pub returns-then-has_heir : goal.returns-then-has_heir
returns-then-has_heir c =
    let to = c.args.amend.to in
    IfOk-weaker c.one.result _ _ (λ heirs is n. (
      λ h. (
        sym (Contains-one to n (subst (λ ns. Contains ns n) is h)),
        c.has_heir.ensures.0 c.if-has_heir.true,
      ),
      λ h. subst (λ ns. Contains ns n) (sym is) (subst (Contains (to ∷ [])) (sym h.0) (Contains-first to [])),
    )) c.one.ensures

pub returns-else-has_heir : goal.returns-else-has_heir
returns-else-has_heir c n = (
  λ h. absurd (Contains-none n (subst (λ ns. Contains ns n) c.new.ensures.items h)),
  λ h. absurd (true≢false (sym (c.has_heir.ensures.1 h.1) ∙ c.if-has_heir.false)),
)
