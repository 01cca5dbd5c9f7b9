use Rattle.std.proofs.Common.{◌++◌, ℕ, List, take, drop, slice_get, sym, ap, ◌∙◌}
use Rattle.std.proofs.lemmas.List.{take-append-drop}
use Rattle.std.proofs.lemmas.List.Elements.{filter_map-append}
use Rattle.std.specs.Option.{option_copied}
use Rattle.hg_changeset.proofs.ListLemmas.{on_err_anyway}
use Rattle.hg_marker.specs.Fields.{Fields}
use Rattle.hg_marker.specs.Grammar.{spelling}
use Rattle.hg_obsstore.specs.Places.{picked}
use Rattle.hg_obsstore.specs.Spelling.{store_spelling}
use Rattle.hg_obsstore.proofs.FormatLemmas.{written_front, written_on}
use Rattle.hg_obsstore.proofs.PlaceLemmas.{picked-some, picked-none}
use Rattle.hg_obsstore.proofs.format.write_markers_at.Goals as goal
use Rattle.hg_obsstore.proofs.format.write_markers_at.Goals.{in-Some+in_ok-write_marker-in-Some, in-None}

pub loop-place-preserved : goal.loop-place-preserved
loop-place-preserved c =
    let ms = c.args.store.now in
    let places = c.args.places.now in
    let i = c.loop-place.place-index in
    let before = c.args.out.now.items in
    let so_far = picked ms (take i places) in
    let onto = λ (found : List Fields). before ++ store_spelling found in
    elim c.match-get.branch [
      | in-Some+in_ok-write_marker-in-Some w ↦
          let m = w.in-Some.marker.now in
          ap (λ v. v.items) w.out-is ∙ w.in_ok-write_marker-in-Some.ensures.written
          ∙ ap (λ (bytes : List ℕ). bytes ++ spelling m) c.loop-place.invariant ∙ written_on _ _ _ ∙ ap onto (sym
          (picked-some _ _ _ c.loop-place-test.true _ (sym c.get.ensures ∙ ap option_copied w.in-Some.is)))
      | in-None w ↦
          ap (λ v. v.items) w.out-is ∙ c.loop-place.invariant ∙ ap onto (sym
          (picked-none _ _ _ c.loop-place-test.true (sym c.get.ensures ∙ ap option_copied w.in-None.is)))
    ]

pub returns-in_err-write_marker-in-Some-clause-err : goal.returns-in_err-write_marker-in-Some-clause-err
returns-in_err-write_marker-in-Some-clause-err c =
    let ms = c.args.store.now in
    let places = c.args.places.now in
    let i = c.loop-place.place-index in
    on_err_anyway _ _ (written_front _ _ _ (picked ms (drop i places)) _
    (c.in_err-write_marker-in-Some.ensures.unchanged ∙ c.loop-place.invariant)
    (sym (filter_map-append (slice_get ms) (take i places) (drop i places))
    ∙ ap (picked ms) (take-append-drop i places)))
