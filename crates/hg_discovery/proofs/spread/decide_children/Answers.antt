use Rattle.std.proofs.Common.{◌≡◌, ◌+◌, inl, inr, arith, get_or, slice_get, Some, refl}
use Rattle.std.proofs.lemmas.Option.{slice_get-get_or}
use Rattle.hg_discovery.specs.declared.finding.Finding.TheVariants.{Missing}
use Rattle.hg_discovery.specs.Children.{Stands}
use Rattle.hg_discovery.proofs.WalkLemmas.{Grows-wider, Grows-none, stretch_grows, stretch_taken, stands_in}
use Rattle.hg_discovery.proofs.spread.decide_children.Goals as goal

pub returns-in_err-decide-clause-grows : goal.returns-in_err-decide-clause-grows
returns-in_err-decide-clause-grows c =
    let cs = c.args.children.now in
    let from = c.args.stretch.from in
    let i = c.loop-i.i in
    let at : slice_get cs i ≡ Some (get_or cs i 0) = slice_get-get_or cs i 0
    (omega (arith, c.requires, c.loop-i-test.true, c.loop-i.auto.i-end)) in
    Grows-wider Missing (Stands cs from (i + 1)) (Stands cs from c.args.stretch.to) _ _ _ _
    (λ k h. stands_in cs from (i + 1) c.args.stretch.to k
    (omega (arith, c.loop-i-test.true, c.loop-i.auto.i-end)) h)
    (stretch_grows cs from i (get_or cs i 0) at c.loop-i.invariant.from Missing _ _ _ _ _ _ c.loop-i.invariant.grows
    c.decide.ensures.grows)

pub loop-i-preserved : goal.loop-i-preserved
loop-i-preserved c =
    let cs = c.args.children.now in
    let from = c.args.stretch.from in
    let i = c.loop-i.i in
    let at : slice_get cs i ≡ Some (get_or cs i 0) = slice_get-get_or cs i 0
    (omega (arith, c.requires, c.loop-i-test.true, c.loop-i.auto.i-end)) in
    record {
      grows = stretch_grows cs from i (get_or cs i 0) at c.loop-i.invariant.from Missing _ _ _ _ _ _
          c.loop-i.invariant.grows c.decide.ensures.grows;
      taken = stretch_taken cs from i (get_or cs i 0) at c.loop-i.invariant.from Missing _ _ _ _ _ _
          c.loop-i.invariant.grows c.decide.ensures.grows c.loop-i.invariant.taken c.in_ok-decide.ensures.taken;
      from = omega (arith, c.loop-i.invariant.from);
      edge = inr (omega (arith, c.loop-i-test.true, c.loop-i.auto.i-end));
    }

pub returns-clause-grows : goal.returns-clause-grows
returns-clause-grows c =
    let cs = c.args.children.now in
    let from = c.args.stretch.from in
    Grows-wider Missing (Stands cs from c.loop-i.i) (Stands cs from c.args.stretch.to) _ _ _ _
    (λ k h. elim c.loop-i.invariant.edge [
      | inl e ↦ absurd (omega (arith, e, h.1, h.2))
      | inr le ↦
          stands_in cs from c.loop-i.i c.args.stretch.to k le h
    ]) c.loop-i.invariant.grows

pub loop-i-init : goal.loop-i-init
loop-i-init c = record {
  grows = Grows-wider Missing (λ k. ⊥)
      (Stands c.args.children.now c.args.stretch.from c.args.stretch.from) _ _ _ _ (λ k h. absurd h)
      (Grows-none Missing (λ k. ⊥) c.args.decided.now c.args.queue.now.items);
  taken =
      λ k h u. absurd (omega (arith, h.1, h.2));
  from = omega arith;
  edge = inl refl;
}
