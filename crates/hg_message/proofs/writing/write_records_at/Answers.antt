use Rattle.std.proofs.Common.{◌≡◌, ◌+◌, ◌∷◌, ◌++◌, [], ℕ, List, take, sym, ap, subst, ◌∙◌}
use Rattle.std.proofs.lemmas.List.{flat_map_more}
use Rattle.std.specs.List.{flat_map, AllByRecursion}
use Rattle.std.specs.Option.{option_copied}
use Rattle.hg_changeset.specs.Contents.{Contents}
use Rattle.hg_changeset.specs.Changeset.{IsChangeset}
use Rattle.hg_obsstore.specs.Places.{picked}
use Rattle.hg_obsstore.proofs.PlaceLemmas.{picked-some, picked-none}
use Rattle.hg_message.specs.Spelling.{record_spelling}
use Rattle.hg_message.proofs.WritingLemmas.{AllByRecursion-push}
use Rattle.hg_message.proofs.writing.write_records_at.Goals as goal
use Rattle.hg_message.proofs.writing.write_records_at.Goals.{in-Some+in_ok-write_record-in-Some, in-None}

pub loop-place-preserved : goal.loop-place-preserved
loop-place-preserved c =
    let cs = c.args.graph.now in
    let places = c.args.places.now in
    let i = c.loop-place.place-index in
    let before = c.args.out.now.items in
    let so_far = picked cs (take i places) in
    let onto = λ (found : List Contents). before ++ flat_map record_spelling found in
    elim c.match-changeset_at.branch [
      | in-Some+in_ok-write_record-in-Some w ↦
          let x = w.in-Some.changeset.now in
          let more : picked cs (take (i + 1) places) ≡ so_far ++ x ∷ [] =
          picked-some cs places i c.loop-place-test.true x
          (sym c.changeset_at.ensures ∙ ap option_copied w.in-Some.is) in (
            ap (λ v. v.items) w.out-is ∙ w.in_ok-write_record-in-Some.ensures.written
                ∙ ap (λ (bytes : List ℕ). bytes ++ record_spelling x) c.loop-place.invariant.0
                ∙ flat_map_more record_spelling before so_far x ∙ ap onto (sym more),
            subst (AllByRecursion IsChangeset) (sym more)
                (AllByRecursion-push IsChangeset so_far x c.loop-place.invariant.1
                w.in_ok-write_record-in-Some.ensures.changeset),
          )
      | in-None w ↦
          let same : picked cs (take (i + 1) places) ≡ so_far =
          picked-none cs places i c.loop-place-test.true (sym c.changeset_at.ensures
          ∙ ap option_copied w.in-None.is) in (
            ap (λ v. v.items) w.out-is ∙ c.loop-place.invariant.0
                ∙ ap onto (sym same),
            subst (AllByRecursion IsChangeset) (sym same) c.loop-place.invariant.1,
          )
    ]
