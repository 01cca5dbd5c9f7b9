use Rattle.std.proofs.Common.{◌≡◌, ◌<◌, ◌++◌, ◌∷◌, [], length, map, take, get_or, sym, ap, subst, ◌∙◌, arith}
use Rattle.std.proofs.lemmas.List.{map_more, take_all}
use Rattle.hg_changeset.specs.declared.node.Node.{Node}
use Rattle.hg_marker.specs.Operation.{note_texts}
use Rattle.hg_rewrite.specs.declared.refusal.Refusal.TheVariants.{NoMemory}
use Rattle.hg_rewrite.specs.Answer.{IsRefusal}
use Rattle.hg_rewrite.specs.Parts.{marker}
use Rattle.hg_rewrite.specs.Refusals.{marker_refused}
use Rattle.hg_rewrite.proofs.RowLemmas.{none_more, none_of_all, none_mapped}
use Rattle.hg_rewrite.proofs.MarkLemmas.{made_is, made_unrefused, mark_refused, mark_wanting}
use Rattle.hg_rewrite.proofs.markers.mark.Goals as goal

pub returns-in-Err-clause-answer : goal.returns-in-Err-clause-answer
returns-in-Err-clause-answer c =
    let texts = note_texts c.args.note.now in
    let ids = c.args.ids.now in
    let ns = c.args.rewritten.now in
    subst (IsRefusal (map marker_refused (map (marker texts ids) ns))) (sym c.mark_refusal.ensures)
    (mark_refused texts ids ns c.loop-node.node-index (omega arith) c.loop-node.invariant.0 c.in-Err.error
    c.in-Err.ensures)

pub returns-in-Err-clause-memory : goal.returns-in-Err-clause-memory
returns-in-Err-clause-memory c = λ wanting.
    let is : c.mark_refusal.result ≡ NoMemory = cc in
    mark_wanting (note_texts c.args.note.now) c.args.ids.now c.args.rewritten.now c.loop-node.node-index (omega arith)
    c.loop-node.invariant.0 c.in-Err.error c.in-Err.ensures (sym c.mark_refusal.ensures ∙ is)

pub loop-node-preserved : goal.loop-node-preserved
loop-node-preserved c =
    let texts = note_texts c.args.note.now in
    let ids = c.args.ids.now in
    let ns = c.args.rewritten.now in
    let i = c.loop-node.node-index in
    let lt : i < length ns = omega arith in
    let node : Node = get_or ns i (record { 0 = [] }) in
    let made = marker texts ids node in (
      none_more (λ n. marker_refused (marker texts ids n)) ns i (record { 0 = [] }) lt c.loop-node.invariant.0
          (made_unrefused made c.in-Ok.marker c.in-Ok.ensures),
      c.in_ok-push-in-Ok.ensures.items
          ∙ ap (λ ms. ms ++ c.in-Ok.marker ∷ []) c.loop-node.invariant.1
          ∙ ap (λ m. map (marker texts ids) (take i ns) ++ m ∷ []) (made_is made c.in-Ok.marker c.in-Ok.ensures)
          ∙ sym (map_more (marker texts ids) ns i (record { 0 = [] }) lt),
    )

pub returns-clause-answer : goal.returns-clause-answer
returns-clause-answer c =
    let texts = note_texts c.args.note.now in
    let ids = c.args.ids.now in
    let ns = c.args.rewritten.now in
    let i = c.loop-node.node-index in (
      none_mapped marker_refused (marker texts ids) ns (none_of_all (λ n. marker_refused (marker texts ids n)) ns i
          (omega arith) c.loop-node.invariant.0),
      c.loop-node.invariant.1 ∙ ap (map (marker texts ids)) (take_all i ns (omega arith)),
    )
