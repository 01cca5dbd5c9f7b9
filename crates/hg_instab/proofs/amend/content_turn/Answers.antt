use Rattle.std.proofs.Common.{inl, inr}
use Rattle.std.proofs.lemmas.Result.{IfOk-weaker}
use Rattle.hg_instab.proofs.AmendLemmas.{neither}
use Rattle.hg_instab.proofs.amend.content_turn.Goals as goal

pub returns-clause-told : goal.returns-clause-told
returns-clause-told c =
    let apart = neither c.args.amend.from c.args.amend.to in
    IfOk-weaker c.to.result _ _ (λ turn told n. (
      λ h. elim ((told n).0 h) [
        | inl new ↦ inl ((c.in_ok-now.ensures n).0 new)
        | inr old ↦ inr (old.0, (apart n).0 old.1)
      ],
      λ h. (told n).1 (elim h [
        | inl new ↦ inl ((c.in_ok-now.ensures n).1 new)
        | inr old ↦ inr (old.0, (apart n).1 old.1)
      ]),
    )) c.to.ensures.then
