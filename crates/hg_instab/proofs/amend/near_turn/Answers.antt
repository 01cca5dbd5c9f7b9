use Rattle.std.proofs.Common.{[], inl, inr, sym, subst, ◌∷◌, Contains}
use Rattle.std.proofs.lemmas.Result.{IfOk-weaker}
use Rattle.hg_changeset.proofs.ListLemmas.{Contains-first, Contains-one}
use Rattle.hg_instab.proofs.amend.near_turn.Goals as goal

pub returns-clause-told : goal.returns-clause-told
returns-clause-told c =
    let to = c.args.amend.to in
    IfOk-weaker c.growing.result _ _ (λ turn grows n. (
      λ h. elim ((grows n).0 h) [ inl old ↦ inl old | inr new ↦ inr (sym (Contains-one to n new)) ],
      λ h. (grows n).1 (elim h
          [ inl old ↦ inl old | inr e ↦ inr (subst (Contains (to ∷ [])) (sym e) (Contains-first to [])) ]),
    )) c.growing.ensures.then
