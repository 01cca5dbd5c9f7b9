use Rattle.std.proofs.Common.{◌≡◌, ◌<◌, take, get_or, IfSome, length, sym, ap, subst, arith, ◌∷◌, [], ◌++◌, ◌∙◌}
use Rattle.std.proofs.lemmas.List.{take_more}
use Rattle.std.proofs.lemmas.Option.{get_or_from_slice_get, none-some}
use Rattle.std.specs.Option.{option_copied}
use Rattle.hg_graph.specs.Answers.{IsNew}
use Rattle.hg_graph.specs.Places.{ArePlacesOf}
use Rattle.hg_changeset.proofs.ListLemmas.{slice_get_some}
use Rattle.hg_graph.proofs.PlaceLemmas.{IsNew-front, ArePlacesOf-take}
use Rattle.hg_graph.proofs.graph.Graph.copy.Goals as goal
use Rattle.hg_graph.proofs.graph.Graph.copy.Goals.{in-Some+in_ok-copy+in_ok-push, in_default}

pub push-requires-clause-new : goal.push-requires-clause-new
push-requires-clause-new c =
    let cs = c.args.self.now in
    let i = c.loop-place.place in
    let x = c.in-Some.changeset.now in
    let new : IsNew (take i cs) x = IsNew-front cs c.len.ensures.graph i x (sym c.in-Some.ensures) in
    subst (λ g. IsNew g c.in_ok-copy.field-0) (sym c.loop-place.invariant)
    (subst (IsNew (take i cs)) (sym c.in_ok-copy.ensures) new)

pub push-requires-clause-places : goal.push-requires-clause-places
push-requires-clause-places c =
    let cs = c.args.self.now in
    let i = c.loop-place.place in
    let x = c.in-Some.changeset.now in
    let p = c.parent_places.result in
    let here : ArePlacesOf cs x p = subst (λ o. IfSome o (λ d. ArePlacesOf cs d p)) (sym c.in-Some.ensures)
    c.parent_places.ensures.in_order in
    let places = ArePlacesOf-take cs c.len.ensures.graph i i x p (omega arith) (sym c.in-Some.ensures) here in
    subst (λ g. ArePlacesOf g c.in_ok-copy.field-0 p) (sym c.loop-place.invariant)
    (subst (λ d. ArePlacesOf (take i cs) d p) (sym c.in_ok-copy.ensures) places)

pub loop-place-preserved : goal.loop-place-preserved
loop-place-preserved c =
    let cs = c.args.self.now in
    let i = c.loop-place.place in
    let within : i < length cs = omega (arith, c.loop-place-test.true, c.len-place-end.ensures.len) in
    elim c.match-changeset_at.branch [
      | in-Some+in_ok-copy+in_ok-push w ↦
          let x = w.in-Some.changeset.now in
          let last : get_or cs i x ≡ w.in_ok-copy.field-0 = get_or_from_slice_get cs i x x (sym w.in-Some.ensures)
          ∙ sym w.in_ok-copy.ensures in
          w.graph-is ∙ w.in_ok-push.ensures.pushed ∙ ap (λ g. g ++ w.in_ok-copy.field-0 ∷ []) c.loop-place.invariant
          ∙ ap (λ y. take i cs ++ y ∷ []) (sym last) ∙ sym (take_more cs i x within)
      | in_default w ↦
          let there = slice_get_some cs i within in
          absurd (none-some there.0 (sym (ap option_copied w.in_default.is) ∙ c.changeset_at.ensures ∙ there.1))
    ]
