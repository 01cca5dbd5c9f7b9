use Rattle.std.proofs.Common.{◌+◌, ℕ, length, take, sym, ap, subst, ◌∙◌}
use Rattle.std.proofs.lemmas.List.{take_all}
use Rattle.hg_marker.specs.Fields.{Fields}
use Rattle.hg_obsstore.specs.Spelling.{IsLength, store_spelling}
use Rattle.std.specs.List.{AllByRecursion}
use Rattle.hg_marker.specs.Grammar.{IsSpelling, spelling}
use Rattle.hg_marker.proofs.MarkerLemmas.{is_spelling}
use Rattle.hg_obsstore.proofs.FormatLemmas.{each_more, length_more, written_spells}
use Rattle.hg_obsstore.proofs.format.markers_len.Goals as goal

pub loop-marker-preserved : goal.loop-marker-preserved
loop-marker-preserved c =
    let ms = c.args.markers.now in
    let i = c.loop-marker.marker-index in
    let before : ℕ = length (store_spelling (take i ms)) in
    let more = length_more ms i c.marker-item.result c.loop-marker-test.true c.marker-item.is in (
      subst (IsLength c.add_len-len.result) (ap (λ (n : ℕ). before + n) c.written_len.ensures.len ∙ sym more)
          (c.add_len-len.ensures before c.loop-marker.invariant.0),
      each_more (λ (m : Fields). IsSpelling m (spelling m)) ms i c.marker-item.result c.loop-marker-test.true
          c.marker-item.is c.loop-marker.invariant.1 (is_spelling c.marker-item.result c.written_len.ensures.marker),
    )

pub returns-clause-spells : goal.returns-clause-spells
returns-clause-spells c =
    written_spells c.args.markers.now
    (subst (AllByRecursion (λ (m : Fields). IsSpelling m (spelling m)))
    (take_all c.loop-marker.marker-index c.args.markers.now c.loop-marker-test.false) c.loop-marker.invariant.1)
