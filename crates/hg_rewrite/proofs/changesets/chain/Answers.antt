use Rattle.std.proofs.Common.{Contains, length, inl, inr, sym, subst, ◌∙◌, arith}
use Rattle.std.proofs.lemmas.List.{length_push}
use Rattle.std.proofs.lemmas.List.Elements.{Contains-push_cases}
use Rattle.std.proofs.lemmas.Iterator.Adapters.{YieldsList-from_vec}
use Rattle.std.proofs.lemmas.Iterator.Consumers.{YieldsList-turn, YieldsList-end}
use Rattle.hg_changeset.specs.Changeset.{IsChangeset}
use Rattle.hg_changeset.proofs.ListLemmas.{Contains-none}
use Rattle.hg_rewrite.proofs.ChainLemmas.{IsMadeSoFar, nothing_made, made_next, refused_next, all_made_at_end}
use Rattle.hg_rewrite.proofs.changesets.chain.Goals as goal

pub loop-text-init : goal.loop-text-init
loop-text-init c = (
  subst (IsMadeSoFar c.args.parents c.args.texts.items c.args.texts.items c.args.parents)
      (sym c.new-changesets.ensures.items) (nothing_made c.args.parents c.args.texts.items),
  (λ d h. absurd (Contains-none d (subst (λ ds. Contains ds d) c.new-changesets.ensures.items h))),
)

pub returns-in-Err-clause-answer : goal.returns-in-Err-clause-answer
returns-in-Err-clause-answer c =
    let texts = c.args.texts.items in
    let gives = c.into_iter-text-iterator.ensures.into_iter_gives in
    let t = YieldsList-turn (YieldsList-from_vec texts gives.0 (gives.1 ∙ c.args.texts.ok.0)) c.loop-text.yielded
    c.loop-text.text-iterator c.loop-text.yielded_by c.next.result c.next.new.self c.in-Some.text c.in-Some.is
    c.next.ensures.steps in
    inr (refused_next c.args.parents texts (length c.loop-text.yielded) c.in-Some.text c.loop-text.p c.loop-text.q
    c.loop-text.changesets.items t.0 t.1 c.loop-text.invariant.0 c.in-Err.fault c.in-Err.ensures)

pub loop-text-preserved : goal.loop-text-preserved
loop-text-preserved c =
    let texts = c.args.texts.items in
    let gives = c.into_iter-text-iterator.ensures.into_iter_gives in
    let t = YieldsList-turn (YieldsList-from_vec texts gives.0 (gives.1 ∙ c.args.texts.ok.0)) c.loop-text.yielded
    c.loop-text.text-iterator c.loop-text.yielded_by c.next.result c.next.new.self c.in-Some.text c.in-Some.is
    c.next.ensures.steps in
    let all = c.in_ok-push-in-Ok.ensures.items in (
      made_next c.args.parents texts (length c.loop-text.yielded) c.in-Some.text c.loop-text.p c.loop-text.q
          c.loop-text.changesets.items t.0 t.1 c.loop-text.invariant.0
          _ c.node-p.result c.in-Ok.changeset c.push.new.self.items
          (length_push c.loop-text.yielded c.in-Some.text) c.in-Ok.ensures c.node-p.ensures.id all,
      (λ d h. elim (Contains-push_cases c.loop-text.changesets.items c.in-Ok.changeset d
          (subst (λ ds. Contains ds d) all h)) [
            | inl before ↦ c.loop-text.invariant.1 d before
            | inr same ↦ subst IsChangeset same c.node-p.ensures.changeset
          ]),
    )

pub returns-clause-answer : goal.returns-clause-answer
returns-clause-answer c =
    let texts = c.args.texts.items in
    let gives = c.into_iter-text-iterator.ensures.into_iter_gives in
    let t = YieldsList-end (YieldsList-from_vec texts gives.0 (gives.1 ∙ c.args.texts.ok.0)) c.loop-text.yielded
    c.loop-text.text-iterator c.loop-text.yielded_by c.next.result c.next.new.self c.in-None.is
    c.next.ensures.steps in
    all_made_at_end c.args.parents texts (length c.loop-text.yielded)
    (c.loop-text.p, c.loop-text.q) c.loop-text.changesets.items (omega (arith, t.1)) c.loop-text.invariant.0
