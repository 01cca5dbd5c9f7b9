use Rattle.std.proofs.Common.{◌≡◌, ◌<◌, Some, length, slice_get, sym, ap, subst, ◌∙◌, arith}
use Rattle.std.proofs.lemmas.List.{length-map}
use Rattle.std.proofs.lemmas.Option.{slice_get-map, slice_get-get_or}
use Rattle.std.specs.Option.{option_map}
use Rattle.hg_graph.specs.Links.{lists_of, AreChildPlaces}
use Rattle.hg_graph.proofs.links.Links.children.Goals as goal

kept : (c : goal.After-as_slice) → AreChildPlaces c.args.self.now c.args.place c.as_slice.result.now
kept c =
    let vectors = c.self.inside.children.items in
    let children = rw c.self.view_is at c.self.invariant in
    let within : c.args.place < length vectors =
    omega (arith, c.requires, children.len, length-map vectors (λ v. v.items)) in
    let v = c.index.result.now in
    let at : slice_get vectors c.args.place ≡ Some v = slice_get-get_or vectors c.args.place v within
    ∙ ap (λ v. Some v) (sym c.index.ensures) in
    let listed : slice_get (lists_of vectors) c.args.place ≡ Some v.items = slice_get-map (λ v. v.items) vectors
    c.args.place ∙ ap (option_map (λ v. v.items)) at in
    subst (AreChildPlaces c.args.self.now c.args.place) (sym c.as_slice.ensures)
    (children.each c.args.place v.items listed)

pub returns-clause-exact : goal.returns-clause-exact
returns-clause-exact c = (kept c).exact

pub returns-clause-ascending : goal.returns-clause-ascending
returns-clause-ascending c = (kept c).ascending
