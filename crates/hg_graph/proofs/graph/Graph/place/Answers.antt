use Rattle.std.proofs.Common.{◌≡◌, Some, sym, subst, ap, slice_get, ◌∙◌}
use Rattle.std.specs.Option.{option_map}
use Rattle.std.proofs.lemmas.Option.{slice_get-map}
use Rattle.indexmap.specs.IndexMap.{values}
use Rattle.hg_node_set.specs.Keys.{number_of}
use Rattle.hg_graph.specs.Graph.{Holds, nodes}
use Rattle.hg_graph.specs.Places.{IsAt}
use Rattle.hg_graph.proofs.GraphLemmas.{null_not_held}
use Rattle.hg_graph.proofs.PlaceLemmas.{same_place, told_place}
use Rattle.hg_graph.proofs.graph.Graph.place.Goals as goal

pub returns-in-Some-clause-place : goal.returns-in-Some-clause-place
returns-in-Some-clause-place c =
    let cs = values c.self.inside.changesets in
    let node = c.args.node in
    let last = c.in-Some.last in
    let at : IsAt cs node last = subst (λ ns. slice_get ns last ≡ Some node) c.self.invariant.0
    (slice_get-map (λ p. p.0) c.self.inside.changesets.entries last ∙ ap (option_map (λ p. p.0)) c.in-Some.ensures) in
    rw (← c.self.view_is) (λ j. (
      λ there. same_place (nodes cs) node last j c.self.invariant.1.distinct at there,
      λ is. subst (IsAt cs node) (sym is) at,
    ))

pub returns-then-is_null-clause-place : goal.returns-then-is_null-clause-place
returns-then-is_null-clause-place c =
    rw (← c.self.view_is)
    (λ held. null_not_held _ c.self.invariant.1 (subst (Holds _) (c.is_null.ensures.null.0 c.if-is_null.true) held))

pub returns-clause-place : goal.returns-clause-place
returns-clause-place c =
    rw (← c.self.view_is) (told_place (values c.self.inside.changesets) c.self.invariant.1 c.args.node
    c.get_index_of.result (c.get_index_of.ensures.index ∙ ap (λ ns. number_of ns c.args.node) c.self.invariant.0))
