use Rattle.std.proofs.Common.{◌≡◌, ◌+◌, ◌∷◌, ◌++◌, [], ℕ, take, length, sym, ap, ◌∙◌, arith}
use Rattle.std.proofs.lemmas.List.Sums.{sum_by_push}
use Rattle.std.specs.Option.{option_copied}
use Rattle.std.specs.Prelude.{sum_by}
use Rattle.hg_changeset.specs.Contents.{Contents}
use Rattle.hg_obsstore.specs.Places.{picked}
use Rattle.hg_obsstore.proofs.PlaceLemmas.{picked-some, picked-none}
use Rattle.hg_message.proofs.writing.records_len_at.Goals as goal
use Rattle.hg_message.proofs.writing.records_len_at.Goals.{in-Some, in-None}

pub loop-place-preserved : goal.loop-place-preserved
loop-place-preserved c =
    let cs = c.args.graph.now in
    let places = c.args.places.now in
    let i = c.loop-place.place-index in
    let so_far = picked cs (take i places) in
    let size : Contents → ℕ = λ (x : Contents). 64 + length x.text in
    elim c.match-changeset_at.branch [
      | in-Some w ↦
          let x = w.in-Some.changeset.now in
          let more : picked cs (take (i + 1) places) ≡ so_far ++ x ∷ [] =
          picked-some cs places i c.loop-place-test.true x
          (sym c.changeset_at.ensures ∙ ap option_copied w.in-Some.is) in
          let sum = ap (sum_by size) more ∙ sum_by_push size so_far x in
          let text : length w.text.result.now ≡ length x.text = ap length w.text.ensures.text in (
            omega (arith, w.len-is, c.loop-place.invariant.0, sum, text),
            omega (arith, w.len-is, c.loop-place.invariant.1, w.text.ensures.within),
          )
      | in-None w ↦
          let same : picked cs (take (i + 1) places) ≡ so_far =
          picked-none cs places i c.loop-place-test.true (sym c.changeset_at.ensures
          ∙ ap option_copied w.in-None.is) in
          let sum = ap (sum_by size) same in
          (w.len-is ∙ c.loop-place.invariant.0 ∙ sym sum, omega (arith, w.len-is, c.loop-place.invariant.1))
    ]
