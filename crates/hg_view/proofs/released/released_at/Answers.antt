use Rattle.std.proofs.Common.{◌↔◌, ℕ, List, Contains, true≢false, inl, inr, slice_get, sym, ap, subst, ◌∙◌}
use Rattle.std.proofs.lemmas.Option.{same_Some, none-some}
use Rattle.hg_changeset.specs.Contents.{Contents}
use Rattle.hg_changeset.specs.declared.node.Node.{Node}
use Rattle.hg_graph.specs.Graph.{nodes}
use Rattle.hg_graph.specs.Places.{IsAt, IsParentPlace}
use Rattle.hg_graph.proofs.PlaceLemmas.{placed_within}
use Rattle.hg_phases.specs.State.{changesets}
use Rattle.hg_replica.specs.Content.{content_of}
use Rattle.hg_view.specs.Shown.{IsAtOne}
use Rattle.hg_view.specs.Released.{IsUpheldStill, IsLeft}
use Rattle.hg_view.proofs.ReleasedLemmas.{children-left}
use Rattle.hg_view.proofs.released.released_at.Goals as goal
use Rattle.hg_view.proofs.released.released_at.Goals.{In-Some, After-children}

pub children-requires : goal.children-requires
children-requires c =
    placed_within c.graph-graph.result.now c.in-Some.node c.args.place (sym c.node_at.ensures ∙ c.in-Some.is)

at : (c : In-Some) → IsAt (changesets c.args.replica.now.history) c.in-Some.node c.args.place
at c = subst (λ (cs : List Contents). IsAt cs c.in-Some.node c.args.place) c.graph-graph.ensures.graph
    (sym c.node_at.ensures ∙ c.in-Some.is)

exact : (c : After-children) (k : ℕ)
    → Contains c.children.result.now k ↔ IsParentPlace (changesets c.args.replica.now.history) k c.args.place
exact c =
    subst (λ (cs : List Contents). (k : ℕ) → Contains c.children.result.now k ↔ IsParentPlace cs k c.args.place)
    c.graph-graph.ensures.graph c.children.ensures.exact

pub returns-then-is_pinned_but : goal.returns-then-is_pinned_but
returns-then-is_pinned_but c = λ n at_n.
    subst (IsUpheldStill (content_of c.args.replica.now) c.args.pins.now c.args.but c.args.upheld.now.keys
    c.args.gone.now.keys)
    (same_Some c.in-Some.node n (sym (at (goal.at.returns-then-is_pinned_but c).In-Some) ∙ at_n))
    (inl (c.is_pinned_but.ensures.0 c.if-is_pinned_but.true))

pub returns-then-has_left : goal.returns-then-has_left
returns-then-has_left c = λ n at_n.
    let s = c.args.replica.now in
    let upheld = c.args.upheld.now.keys in
    let gone = c.args.gone.now.keys in
    let there = at (goal.at.returns-then-has_left c).In-Some in
    let found : (n : Node) × IsAtOne (changesets s.history) c.children.result.now n × IsLeft upheld gone n =
    subst (λ (cs : List Contents). (n : Node) × IsAtOne cs c.children.result.now n × IsLeft upheld gone n)
    c.graph-graph.ensures.graph (c.has_left.ensures.0 c.if-has_left.true) in
    subst (IsUpheldStill (content_of s) c.args.pins.now c.args.but upheld gone)
    (same_Some c.in-Some.node n (sym there ∙ at_n))
    (inr ((children-left s c.graph-graph.ensures.valid upheld gone c.in-Some.node c.args.place there _
    (exact (goal.at.returns-then-has_left c).After-children)).0 found))

pub returns-else-has_left : goal.returns-else-has_left
returns-else-has_left c =
    let s = c.args.replica.now in
    let upheld = c.args.upheld.now.keys in
    let gone = c.args.gone.now.keys in
    let there = at (goal.at.returns-else-has_left c).In-Some in (
      there,
      λ still. elim still [
        | inl pinned ↦ true≢false (sym (c.is_pinned_but.ensures.1 pinned) ∙ c.if-is_pinned_but.false)
        | inr child ↦ true≢false (sym (c.has_left.ensures.1
            (subst (λ (cs : List Contents). (n : Node) × IsAtOne cs c.children.result.now n × IsLeft upheld gone n)
            (sym c.graph-graph.ensures.graph)
            ((children-left s c.graph-graph.ensures.valid upheld gone c.in-Some.node c.args.place there _
            (exact (goal.at.returns-else-has_left c).After-children)).1 child))) ∙ c.if-has_left.false)
      ],
    )

pub returns-in-None : goal.returns-in-None
returns-in-None c = λ n at. absurd (none-some n
    (sym c.in-None.is ∙ c.node_at.ensures ∙ ap (λ (cs : List Contents). slice_get (nodes cs) c.args.place)
    c.graph-graph.ensures.graph ∙ at))
