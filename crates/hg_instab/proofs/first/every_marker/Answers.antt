use Rattle.std.proofs.Common.{◌<◌, ℕ, List, length, inl, inr, Contains, sym, ap, subst, arith}
use Rattle.std.proofs.lemmas.Bool.{cases_order}
use Rattle.std.proofs.lemmas.Option.{slice_get_within}
use Rattle.hg_changeset.proofs.ListLemmas.{Contains-pushed, place_from_Contains}
use Rattle.hg_instab.proofs.first.every_marker.Goals as goal

pub loop-place-preserved : goal.loop-place-preserved
loop-place-preserved c k l = subst (λ (xs : List ℕ). Contains xs k) (sym c.in_ok-push.ensures.ok)
    ((Contains-pushed c.loop-place.markers.items c.loop-place.place k).1 (elim (cases_order k c.loop-place.place) [
      | inl e ↦ inr (sym e)
      | inr apart ↦ elim apart [
        | inl less ↦ inl (c.loop-place.invariant k less)
        | inr more ↦ absurd (omega (arith, l, more))
      ]
    ]))

pub returns-clause-markers : goal.returns-clause-markers
returns-clause-markers c m at =
    let ms = c.args.replica.now.markers in
    let place = place_from_Contains ms m at in
    let within : place.0 < length ms = slice_get_within ms place.0 m place.1 in (
      place.0,
      c.loop-place.invariant place.0
          (omega (arith, within, c.loop-place-test.false, c.len-place-end.ensures, ap length c.store.ensures)),
      place.1,
    )
