use Rattle.std.proofs.Common.{◌↔◌, ℕ, List, length, Contains, sym, subst, true≢false, ◌∙◌}
use Rattle.hg_view.specs.Above.{IsAbove}
use Rattle.hg_view.proofs.AboveLemmas.{IsSearched, IsSearched-start, IsSearched-dropped, IsSearched-found}
use Rattle.hg_view.proofs.AboveLemmas.{dropped_smaller, found_smaller, found_all, taken_within}
use Rattle.hg_view.proofs.above.places_above.Goals as goal

pub loop-place-init : goal.loop-place-init
loop-place-init c =
    let cs = c.args.graph.now in
    let heads = c.args.heads.now in
    let common = c.args.common.now in
    let fresh = c.in_ok-fresh.fresh in
    let shared = c.in_ok-shared.shared in (
      length cs,
      subst (λ found. IsSearched cs heads common fresh shared found (length cs)) (sym c.new-found.ensures.items)
          (IsSearched-start cs c.is_valid.ensures.graph fresh shared c.requires.heads c.requires.common
          c.in_ok-fresh.ensures.answer c.in_ok-shared.ensures.answer),
    )

pub insert_parents-requires : goal.insert_parents-requires
insert_parents-requires c =
    taken_within _ c.is_valid.ensures.graph c.loop-place.invariant.1 _ _ c.in-Some.ensures

pub loop-place-preserved-in_ok-insert_parents : goal.loop-place-preserved-in_ok-insert_parents
loop-place-preserved-in_ok-insert_parents c =
    let cs = c.args.graph.now in
    let next = c.insert_parents.new.self in
    let shared = c.is_under.new.waiting in
    let step = IsSearched-found _ c.is_valid.ensures.graph c.loop-place.invariant.1 _ _ c.in-Some.ensures _
    (record { within = c.in_ok-is_under.ensures.within; under = c.in_ok-is_under.ensures.under })
    (λ h. true≢false (sym (c.in_ok-is_under.ensures.answer.1 h) ∙ c.if-not-branch.true))
    _ c.in_ok-insert_parents.ensures in (
      c.in-Some.place,
      subst (λ found. IsSearched cs c.args.heads.now c.args.common.now next shared found c.in-Some.place)
          (sym c.in_ok-push.ensures.items) step,
    )

pub loop-place-smaller-in_ok-insert_parents : goal.loop-place-smaller-in_ok-insert_parents
loop-place-smaller-in_ok-insert_parents c =
    found_smaller _ c.is_valid.ensures.graph c.loop-place.invariant.1 _ _ c.in-Some.ensures _
    (record { within = c.in_ok-is_under.ensures.within; under = c.in_ok-is_under.ensures.under })
    (λ h. true≢false (sym (c.in_ok-is_under.ensures.answer.1 h) ∙ c.if-not-branch.true))
    _ c.in_ok-insert_parents.ensures

pub loop-place-preserved : goal.loop-place-preserved
loop-place-preserved c = (
  c.in-Some.place,
  IsSearched-dropped c.args.graph.now c.is_valid.ensures.graph c.loop-place.invariant.1 c.in-Some.place
      c.pop_last.new.self c.in-Some.ensures c.is_under.new.waiting
      (record { within = c.in_ok-is_under.ensures.within; under = c.in_ok-is_under.ensures.under })
      (c.in_ok-is_under.ensures.answer.0 c.if-not-branch.false),
)

pub loop-place-smaller : goal.loop-place-smaller
loop-place-smaller c =
    dropped_smaller _ c.is_valid.ensures.graph c.loop-place.invariant.1 _ _ c.in-Some.ensures _
    (record { within = c.in_ok-is_under.ensures.within; under = c.in_ok-is_under.ensures.under })
    (c.in_ok-is_under.ensures.answer.0 c.if-not-branch.false)

pub returns-clause-exact : goal.returns-clause-exact
returns-clause-exact c = subst (λ (found : List ℕ). (k : ℕ) → Contains found k
    ↔ IsAbove c.args.graph.now c.args.heads.now c.args.common.now k) (sym c.reverse.ensures.items)
    (found_all _ c.is_valid.ensures.graph c.loop-place.invariant.1 c.in_default.ensures)
