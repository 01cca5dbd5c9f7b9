use Rattle.std.proofs.Common.{◌≡◌, Some, MatchOption, length, slice_get, inl, inr, sym, ap, subst, ◌∙◌, arith}
use Rattle.std.proofs.lemmas.Option.{slice_get-get_or}
use Rattle.hg_phases.specs.declared.phase.Phase.TheVariants.{Public}
use Rattle.hg_phases.proofs.RootLemmas.{opened-valid}
use Rattle.hg_phases.proofs.OpenLemmas.{parent_within, highest-here, opened-more, opened-all}
use Rattle.hg_phases.proofs.open.phases_under.Goals as goal
use Rattle.hg_phases.proofs.open.phases_under.Goals.{After-loop-place}

pub phase_at-first-requires : goal.phase_at-first-requires
phase_at-first-requires c =
    rw (c.deref.ensures.value, c.loop-place.invariant.0)
    (parent_within c.args.graph.now c.len-place-end.ensures.graph c.loop-place.place
    c.parent_places-parents.result.first (λ k s. (c.parent_places-parents.ensures.places k).1 (inl s)))

pub phase_at-second-requires : goal.phase_at-second-requires
phase_at-second-requires c =
    rw (c.deref-in-loop-place.ensures.value, c.loop-place.invariant.0)
    (parent_within c.args.graph.now c.len-place-end.ensures.graph c.loop-place.place
    c.parent_places-parents.result.second (λ k s. (c.parent_places-parents.ensures.places k).1 (inr s)))

pub loop-place-preserved : goal.loop-place-preserved
loop-place-preserved c =
    let first = subst
    (λ ks. MatchOption c.parent_places-parents.result.first (c.phase_at-first.result ≡ Public)
    (λ p. slice_get ks p ≡ Some c.phase_at-first.result)) c.deref.ensures.value c.phase_at-first.ensures in
    let second =
    subst (λ ks. MatchOption c.parent_places-parents.result.second (c.phase_at-second.result ≡ Public)
    (λ p. slice_get ks p ≡ Some c.phase_at-second.result)) c.deref-in-loop-place.ensures.value
    c.phase_at-second.ensures in
    opened-more _ _ _ _ c.loop-place.invariant.0
    c.loop-place.invariant.1 _ _ c.in_ok-push.ensures.items
    (λ n at. highest-here _ c.len-place-end.ensures.graph _ _
    c.loop-place.invariant.1 _ c.in_ok-marks.ensures _ n at
    _ _ c.parent_places-parents.ensures.places
    _ _ _ _
    (slice_get-get_or c.in_ok-marks.marks.items c.loop-place.place c.index.result.now
    (omega (arith, c.in_ok-marks.ensures.len, c.len-place-end.ensures.len, c.loop-place-test.true))
    ∙ ap (λ k. Some k) (sym c.index.ensures)) first second
    c.higher.result c.higher.ensures c.higher-in-loop-place.ensures)

long : (c : After-loop-place) → length c.loop-place.phases.items ≡ length c.args.graph.now
long c = omega (
  arith,
  c.loop-place.invariant.0,
  c.loop-place-test.false,
  c.loop-place.auto.place-end,
  c.len-place-end.ensures.len,
)

pub returns-clause-opened : goal.returns-clause-opened
returns-clause-opened c =
    let len = long (goal.at.returns-clause-opened c).After-loop-place in
    (len, opened-all c.args.graph.now c.args.roots.now c.loop-place.phases.items len c.loop-place.invariant.1)

pub returns-clause-valid : goal.returns-clause-valid
returns-clause-valid c =
    let len = long (goal.at.returns-clause-valid c).After-loop-place in
    opened-valid c.args.graph.now c.args.roots.now _
    (opened-all c.args.graph.now c.args.roots.now c.loop-place.phases.items len c.loop-place.invariant.1)
    c.len-place-end.ensures.graph
