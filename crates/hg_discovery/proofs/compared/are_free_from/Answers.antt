use Rattle.std.proofs.Common.{◌≡◌, ◌∙◌, inl, inr, Some, slice_get, refl, sym, ap, subst, arith}
use Rattle.std.proofs.lemmas.Bool.{cases_eq}
use Rattle.std.proofs.lemmas.Option.{none-some, same_Some, slice_get_within}
use Rattle.std.specs.Option.{option_copied}
use Rattle.hg_changeset.specs.Contents.{Contents}
use Rattle.hg_view.specs.Common.{IsFree}
use Rattle.hg_discovery.proofs.compared.are_free_from.Goals as goal
use Rattle.hg_discovery.proofs.compared.are_free_from.Goals.{in-Some+else-not-is_free_at, in-None}

pub loop-place-init : goal.loop-place-init
loop-place-init c j d le lt at = absurd (omega (arith, le, lt))

pub loop-place-preserved : goal.loop-place-preserved
loop-place-preserved c j d le lt at =
    let i = c.loop-place.place in
    let cs = c.args.graph.now in
    elim (cases_eq j i) [
      | inr ne ↦ c.loop-place.invariant j d le (omega (arith, lt, ne)) at
      | inl e ↦
          let here : slice_get cs i ≡ Some d = subst (λ k. slice_get cs k ≡ Some d) e at in
          elim c.match-changeset_at.branch [
            | in-Some+else-not-is_free_at w ↦
                let same = same_Some w.in-Some.changeset.now d
                (sym (ap option_copied w.in-Some.is) ∙ c.changeset_at.ensures ∙ here) in
                subst (λ (f : Contents). IsFree f c.args.other.now) same
                (w.is_free_at.ensures.0 w.if-not-is_free_at.false)
            | in-None w ↦ absurd (none-some d (sym (ap option_copied w.in-None.is) ∙ c.changeset_at.ensures ∙ here))
          ]
    ]

pub returns : goal.returns
returns c = (
  λ t j d le at. c.loop-place.invariant j d le (omega (
    arith,
    slice_get_within c.args.graph.now j d at,
    c.loop-place-test.false,
    c.len-place-end.ensures.len,
  )) at,
  λ free. refl,
)
