use Rattle.std.proofs.Common.{◌≡◌, ◌↔◌, ◌+◌, ◌++◌, ◌∷◌, [], ◌∙◌, inl, inr, arith, length, length-append, slice_get}
use Rattle.std.proofs.Common.{Some, ap, sym, subst}
use Rattle.hg_graph.specs.declared.graph.ParentPlaces.{ParentPlaces}
use Rattle.hg_graph.specs.Places.{IsParentPlace}
use Rattle.hg_changeset.proofs.ListLemmas.{slice_get-push_cases}
use Rattle.hg_discovery.specs.Under.{IsOneOf}
use Rattle.hg_discovery.proofs.StartLemmas.{shape_end}
use Rattle.hg_discovery.proofs.start.parents_of.Goals as goal

pub loop-place-preserved : goal.loop-place-preserved
loop-place-preserved c =
    let cs = c.args.graph.now in
    let old = c.loop-place.parents.items in
    let new = c.push.new.self.items in
    let i = c.loop-place.place in
    let one = c.parent_places.result in
    let grown : new ≡ old ++ one ∷ [] = c.in_ok-push.ensures.items in
    let len : length old ≡ i = c.loop-place.invariant.len in
    record {
      len = ap length grown ∙ length-append old (one ∷ []) ∙ ap (λ n. n + 1) len;
      each = λ j p at k. elim (slice_get-push_cases old one j p (subst (λ xs. slice_get xs j ≡ Some p) grown at)) [
        | inl before ↦ c.loop-place.invariant.each j p before k
        | inr last ↦
            let same : j ≡ i = last.0 ∙ len in
            subst (λ (q : ParentPlaces). IsOneOf q k ↔ IsParentPlace cs j k) last.1
            (subst (λ m. IsOneOf one k ↔ IsParentPlace cs m k) (sym same)
            ((λ h. (c.parent_places.ensures.places k).1 h), (λ h. (c.parent_places.ensures.places k).0 h)))
      ];
    }

pub returns : goal.returns
returns c =
    shape_end c.args.graph.now c.loop-place.parents.items c.loop-place.place c.len.ensures.graph
    c.loop-place.invariant.len
    (omega (arith, c.loop-place.auto.place-end, c.loop-place-test.false, c.len-place-end.ensures.len))
    c.loop-place.invariant.each
