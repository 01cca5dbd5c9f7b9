use Rattle.std.proofs.Common.{◌∙◌, ◌∷◌, [], ap, sym, refl}
use Rattle.hg_marker.specs.Parents.{listed, recorded_parents}
use Rattle.hg_obsstore.specs.declared.index.Role.TheVariants.{Predecessor, Successor, Parent}
use Rattle.hg_obsstore.specs.Index.{places_of, TakesPlaces}
use Rattle.hg_obsstore.specs.Markers.{predecessors, successors}
use Rattle.hg_obsstore.proofs.IndexLemmas.{carried, predecessor-parent, predecessor-successor, successor-parent}
use Rattle.hg_obsstore.proofs.IndexLemmas.{successor-predecessor, parent-predecessor, parent-successor}
use Rattle.hg_obsstore.proofs.index.Index.remove.Goals as goal

pub returns : goal.returns
returns c =
    let old = c.args.self.now in
    let third = c.take_parents.new.self in
    let others = c.take_each.ensures.others in
    let others-2 = c.take_each-2.ensures.others in
    let others-3 = c.take_parents.ensures.others in
    record {
      predecessor =
          carried (λ ns. TakesPlaces ns c.args.place) _ _ (places_of Predecessor old) _ _ _
          (ap (λ p. p ∷ []) c.predecessor.ensures.predecessor) refl
          (sym (others-3 Predecessor predecessor-parent ∙ others-2 Predecessor predecessor-successor))
          c.take_each.ensures.taken;
      successor = carried (λ ns. TakesPlaces ns c.args.place) _ _
          _ _ _ _
          c.successors.ensures (others Successor successor-predecessor) (sym (others-3 Successor successor-parent))
          c.take_each-2.ensures.taken;
      child = carried (λ ns. TakesPlaces ns c.args.place) _ _
          _ _ (places_of Parent third) _
          (ap listed c.parents.ensures) (others-2 Parent parent-successor ∙ others Parent parent-predecessor) refl
          c.take_parents.ensures.taken;
    }
