use Rattle.std.proofs.Common.{◌∙◌, ◌∷◌, [], ap, sym, subst, refl}
use Rattle.hg_marker.specs.Parents.{listed, recorded_parents}
use Rattle.hg_obsstore.specs.declared.index.Role.TheVariants.{Predecessor, Successor, Parent}
use Rattle.hg_obsstore.specs.Index.{places_of, AreBelow, AddsPlace, MayAddPlace}
use Rattle.hg_obsstore.specs.Markers.{predecessors, successors}
use Rattle.hg_changeset.proofs.ListLemmas.{on_err_anyway}
use Rattle.hg_obsstore.proofs.IndexLemmas.{adds_may, carried, unchanged, predecessor-parent, predecessor-successor}
use Rattle.hg_obsstore.proofs.IndexLemmas.{successor-parent, successor-predecessor, parent-predecessor}
use Rattle.hg_obsstore.proofs.IndexLemmas.{parent-successor}
use Rattle.hg_obsstore.proofs.index.Index.try_add.Goals as goal

pub put_each-requires-2 : goal.put_each-requires-2
put_each-requires-2 c =
    subst (λ lists. AreBelow lists c.args.place)
    (sym (c.put_each.ensures.others Successor successor-predecessor))
    c.requires.successor

pub put_parents-requires : goal.put_parents-requires
put_parents-requires c =
    subst (λ lists. AreBelow lists c.args.place)
    (sym (c.put_each-2.ensures.others Parent parent-successor
    ∙ c.put_each.ensures.others Parent parent-predecessor)) c.requires.child

pub returns-in_err-put_each-clause-err : goal.returns-in_err-put_each-clause-err
returns-in_err-put_each-clause-err c =
    let m = c.args.marker.now in
    let old = c.args.self.now in
    let first = c.put_each.new.self in
    let others = c.put_each.ensures.others in
    on_err_anyway c.from_residual.result _ (record {
      predecessor = carried (λ ns. MayAddPlace ns c.args.place) (c.predecessor.result ∷ []) (predecessors m)
          (places_of Predecessor old) (places_of Predecessor old) (places_of Predecessor first)
          (places_of Predecessor first)
          (ap (λ p. p ∷ []) c.predecessor.ensures.predecessor) refl refl c.in_err-put_each.ensures.err;
      successor = unchanged (successors m) c.args.place (places_of Successor old) (places_of Successor first)
          (others Successor successor-predecessor);
      child = unchanged (recorded_parents m) c.args.place (places_of Parent old) (places_of Parent first)
          (others Parent parent-predecessor);
    })

pub returns-in_err-put_each-2-clause-err : goal.returns-in_err-put_each-2-clause-err
returns-in_err-put_each-2-clause-err c =
    let m = c.args.marker.now in
    let old = c.args.self.now in
    let first = c.put_each.new.self in
    let others = c.put_each.ensures.others in
    let second = c.put_each-2.new.self in
    let others-2 = c.put_each-2.ensures.others in
    on_err_anyway c.from_residual-in_err-put_each-2.result _ (record {
      predecessor = adds_may (predecessors m) c.args.place (places_of Predecessor old) (places_of Predecessor second)
          (carried (λ ns. AddsPlace ns c.args.place) (c.predecessor.result ∷ []) (predecessors m)
          (places_of Predecessor old) (places_of Predecessor old) (places_of Predecessor first)
          (places_of Predecessor second)
          (ap (λ p. p ∷ []) c.predecessor.ensures.predecessor) refl (sym (others-2 Predecessor predecessor-successor))
          c.in_ok-put_each.ensures.ok);
      successor = carried (λ ns. MayAddPlace ns c.args.place) c.successors.result.now (successors m)
          (places_of Successor first) (places_of Successor old) (places_of Successor second)
          (places_of Successor second)
          c.successors.ensures (others Successor successor-predecessor) refl c.in_err-put_each-2.ensures.err;
      child = unchanged (recorded_parents m) c.args.place (places_of Parent old) (places_of Parent second)
          (others-2 Parent parent-successor ∙ others Parent parent-predecessor);
    })

pub returns-in_err-put_parents-clause-err : goal.returns-in_err-put_parents-clause-err
returns-in_err-put_parents-clause-err c =
    let m = c.args.marker.now in
    let old = c.args.self.now in
    let first = c.put_each.new.self in
    let others = c.put_each.ensures.others in
    let second = c.put_each-2.new.self in
    let others-2 = c.put_each-2.ensures.others in
    let third = c.put_parents.new.self in
    let others-3 = c.put_parents.ensures.others in
    on_err_anyway c.from_residual-in_err-put_parents.result _ (record {
      predecessor = adds_may (predecessors m) c.args.place (places_of Predecessor old) (places_of Predecessor third)
          (carried (λ ns. AddsPlace ns c.args.place) (c.predecessor.result ∷ []) (predecessors m)
          (places_of Predecessor old) (places_of Predecessor old) (places_of Predecessor first)
          (places_of Predecessor third)
          (ap (λ p. p ∷ []) c.predecessor.ensures.predecessor) refl
          (sym (others-3 Predecessor predecessor-parent ∙ others-2 Predecessor predecessor-successor))
          c.in_ok-put_each.ensures.ok);
      successor = adds_may (successors m) c.args.place (places_of Successor old) (places_of Successor third)
          (carried (λ ns. AddsPlace ns c.args.place) c.successors.result.now (successors m) (places_of Successor first)
          (places_of Successor old) (places_of Successor second) (places_of Successor third)
          c.successors.ensures (others Successor successor-predecessor) (sym (others-3 Successor successor-parent))
          c.in_ok-put_each-2.ensures.ok);
      child = carried (λ ns. MayAddPlace ns c.args.place) (listed c.parents.result) (recorded_parents m)
          (places_of Parent second) (places_of Parent old) (places_of Parent third) (places_of Parent third)
          (ap listed c.parents.ensures) (others-2 Parent parent-successor ∙ others Parent parent-predecessor) refl
          c.in_err-put_parents.ensures.err;
    })

pub returns-clause-ok : goal.returns-clause-ok
returns-clause-ok c =
    let old = c.args.self.now in
    let others = c.put_each.ensures.others in
    let others-2 = c.put_each-2.ensures.others in
    let third = c.put_parents.new.self in
    let others-3 = c.put_parents.ensures.others in
    record {
      predecessor =
          carried (λ ns. AddsPlace ns c.args.place) _ _ (places_of Predecessor old) _ _ _
          (ap (λ p. p ∷ []) c.predecessor.ensures.predecessor) refl
          (sym (others-3 Predecessor predecessor-parent ∙ others-2 Predecessor predecessor-successor))
          c.in_ok-put_each.ensures.ok;
      successor = carried (λ ns. AddsPlace ns c.args.place) _ _
          _ _ _ _
          c.successors.ensures (others Successor successor-predecessor) (sym (others-3 Successor successor-parent))
          c.in_ok-put_each-2.ensures.ok;
      child = carried (λ ns. AddsPlace ns c.args.place) _ _
          _ _ (places_of Parent third) _
          (ap listed c.parents.ensures) (others-2 Parent parent-successor ∙ others Parent parent-predecessor) refl
          c.in_ok-put_parents.ensures.ok;
    }
