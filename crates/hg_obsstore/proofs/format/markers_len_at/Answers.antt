use Rattle.std.proofs.Common.{◌≡◌, ◌+◌, ◌∷◌, ◌++◌, [], ℕ, List, take, length, sym, ap, subst, ◌∙◌}
use Rattle.std.proofs.lemmas.List.{take_all}
use Rattle.std.specs.List.{AllByRecursion}
use Rattle.std.specs.Option.{option_copied}
use Rattle.hg_join.proofs.Entries.{all_next}
use Rattle.hg_marker.specs.Fields.{Fields}
use Rattle.hg_marker.specs.Grammar.{IsSpelling, spelling}
use Rattle.hg_marker.proofs.MarkerLemmas.{is_spelling}
use Rattle.hg_obsstore.specs.Places.{picked}
use Rattle.hg_obsstore.specs.Spelling.{IsLength, store_spelling}
use Rattle.hg_obsstore.proofs.FormatLemmas.{length_push, written_spells}
use Rattle.hg_obsstore.proofs.PlaceLemmas.{picked-some, picked-none}
use Rattle.hg_obsstore.proofs.format.markers_len_at.Goals as goal
use Rattle.hg_obsstore.proofs.format.markers_len_at.Goals.{in-Some, in-None}

pub loop-place-preserved : goal.loop-place-preserved
loop-place-preserved c =
    let ms = c.args.store.now in
    let places = c.args.places.now in
    let i = c.loop-place.place-index in
    let so_far = picked ms (take i places) in
    elim c.match-get.branch [
      | in-Some w ↦
          let m = w.in-Some.marker.now in
          let more : picked ms (take (i + 1) places) ≡ so_far ++ m ∷ [] =
          picked-some _ _ _ c.loop-place-test.true _ (sym c.get.ensures ∙ ap option_copied w.in-Some.is) in
          rw (w.total-is, more) (
            subst (IsLength w.add_len-total.result)
                (ap (λ (n : ℕ). length (store_spelling so_far) + n) w.written_len.ensures.len ∙ sym (length_push _ _))
                (w.add_len-total.ensures (length (store_spelling so_far)) c.loop-place.invariant.0),
            all_next _ _ _ c.loop-place.invariant.1
                (is_spelling _ w.written_len.ensures.marker),
          )
      | in-None w ↦
          let same : picked ms (take (i + 1) places) ≡ so_far =
          picked-none _ _ _ c.loop-place-test.true (sym c.get.ensures ∙ ap option_copied w.in-None.is) in
          rw (w.total-is, same) c.loop-place.invariant
    ]

pub returns-clause-spells : goal.returns-clause-spells
returns-clause-spells c =
    let ms = c.args.store.now in
    let places = c.args.places.now in
    written_spells _ (subst (λ (ps : List ℕ). AllByRecursion (λ (m : Fields). IsSpelling m (spelling m)) (picked ms ps))
    (take_all c.loop-place.place-index places c.loop-place-test.false) c.loop-place.invariant.1)
