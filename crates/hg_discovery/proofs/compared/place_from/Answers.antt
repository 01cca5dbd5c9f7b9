use Rattle.std.proofs.Common.{◌≡◌, Some, sym, subst, ap, ◌∙◌}
use Rattle.hg_graph.specs.Graph.{nodes}
use Rattle.hg_graph.specs.Places.{IsAt}
use Rattle.hg_graph.proofs.PlaceLemmas.{same_place}
use Rattle.hg_changeset.proofs.NodeLemmas.{same_node}
use Rattle.hg_discovery.proofs.compared.place_from.Goals as goal

pub returns-in-Some : goal.returns-in-Some
returns-in-Some c j =
    let cs = c.args.graph.now in
    let is : c.in-Some.held ≡ c.args.node =
    same_node c.in-Some.held c.args.node (sym c.eq.ensures ∙ c.if-eq.true) in
    let here : IsAt cs c.args.node c.args.guess = sym c.node_at.ensures ∙ c.in-Some.is ∙ ap (λ n. Some n) is in (
      λ at. same_place (nodes cs) c.args.node c.args.guess j c.is_valid.ensures.graph.distinct here at,
      λ e. subst (IsAt cs c.args.node) (sym e) here,
    )
