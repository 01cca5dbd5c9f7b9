use Rattle.std.proofs.Common.{◌≡◌, ◌++◌, ◌∷◌, [], ap, sym, ◌∙◌, map, cond, refl}
use Rattle.std.specs.List.{join_with_byte}
use Rattle.std.specs.FinMap.{entries}
use Rattle.hg_marker.specs.Texts.{entry_bytes}
use Rattle.hg_marker.specs.Metadata.{piece}
use Rattle.hg_marker.proofs.TextsLemmas.{entries_of}
use Rattle.hg_marker.proofs.WritingLemmas.{writes_next, all_written, written_is}
use Rattle.hg_marker.proofs.text_map.TextMap.write_onto.Goals as goal
use Rattle.hg_marker.proofs.text_map.TextMap.write_onto.Goals.{then-not-first+in_ok-push, else-not-first}

pub loop-key-preserved : goal.loop-key-preserved
loop-key-preserved c =
    let mid : c.if-not-first.out.items ≡ cond c.loop-key.first c.loop-key.out.items (c.loop-key.out.items ++ 0 ∷ []) =
    elim c.if-not-first.branch [
      | then-not-first+in_ok-push w ↦ rw (w.out-is, w.if-not-first.true) w.in_ok-push.ensures.items
      | else-not-first w ↦ rw (w.out-is, w.if-not-first.false) refl
    ] in
    let same : (c.deref.result.now, c.deref-in-loop-key.result.now)
    ≡ (c.in-Some.key.now.items, c.in-Some.value.now.items) =
    λ i. (c.deref.ensures.value i, c.deref-in-loop-key.ensures.value i) in
    writes_next c.loop-key.first c.loop-key.out.items c.if-not-first.out.items c.write_piece.new.out.items _
    c.in-Some.key.now c.in-Some.value.now c.loop-key.key-iterator c.next.new.self c.in-Some.ensures.steps
    mid (c.in_ok-write_piece.ensures ∙ ap (λ e. c.if-not-first.out.items ++ piece e) same) c.loop-key.invariant

pub returns : goal.returns
returns c =
    let all = ap entries (sym c.self.view_is) ∙ entries_of c.self.inside.texts.entries c.self.invariant
    ∙ ap entry_bytes (sym c.into_iter-key-iterator.ensures.into_iter_gives.0) in
    all_written c.loop-key.first c.loop-key.out.items _ c.loop-key.key-iterator c.in-None.ensures.steps.0
    c.loop-key.invariant
    ∙ ap (λ t. c.args.out.now.items ++ t)
    (ap (λ es. join_with_byte 0 (map piece es)) (sym all) ∙ sym (written_is c.args.self.now))
