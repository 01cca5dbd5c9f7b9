use Rattle.std.proofs.Common.{List, [], get_or, inl, inr, true≢false, sym, subst, ◌∙◌}
use Rattle.std.proofs.lemmas.List.{get_or_default, take_all}
use Rattle.std.proofs.lemmas.Option.{slice_get-get_or}
use Rattle.hg_changeset.specs.declared.node.Node.{Node}
use Rattle.hg_changeset.specs.Contents.{Contents}
use Rattle.hg_changeset.proofs.ListLemmas.{Contains-none}
use Rattle.hg_graph.specs.Graph.{Holds}
use Rattle.hg_history.specs.Content.{IsHeld}
use Rattle.hg_history.proofs.ContentLemmas.{content-node, node_in_content}
use Rattle.hg_changeset.proofs.ListLemmas.{Contains-taken}
use Rattle.hg_replica.specs.Content.{content_of}
use Rattle.hg_message.specs.Offer.{AreHeld}
use Rattle.hg_message.proofs.finding.first_unknown.Goals as goal

pub loop-node-init : goal.loop-node-init
loop-node-init c = λ k h. absurd (Contains-none k h)

pub loop-node-preserved : goal.loop-node-preserved
loop-node-preserved c = λ k h.
    let s = c.args.replica.now in
    let nodes = c.args.nodes.now in
    let i = c.loop-node.node-index in
    let first : Node = record { 0 = [] } in
    let n = get_or nodes i first in
    let here : Holds c.graph-graph.result.now n = c.contains.ensures.0 c.if-not-contains.false in
    elim ((Contains-taken nodes i n k c.loop-node-test.true (get_or_default nodes i n first c.loop-node-test.true)).0
    h) [
      | inl old ↦ c.loop-node.invariant k old
      | inr e ↦ subst (IsHeld (content_of s).0) e (content-node s.history c.graph-graph.ensures.valid.graph n
          (subst (λ (cs : List Contents). Holds cs n) c.graph-graph.ensures.graph here))
    ]

pub returns-then-not-contains : goal.returns-then-not-contains
returns-then-not-contains c =
    let s = c.args.replica.now in
    let nodes = c.args.nodes.now in
    let i = c.loop-node.node-index in
    let first : Node = record { 0 = [] } in
    let n = get_or nodes i first in (
      i,
      slice_get-get_or nodes i first c.loop-node-test.true,
      λ held. true≢false (sym
          (c.contains.ensures.1 (subst (λ (cs : List Contents). Holds cs n) (sym c.graph-graph.ensures.graph)
          (node_in_content s.history c.graph-graph.ensures.valid.graph n held))) ∙ c.if-not-contains.true),
      c.loop-node.invariant,
    )

pub returns : goal.returns
returns c = subst (AreHeld (content_of c.args.replica.now))
    (take_all c.loop-node.node-index c.args.nodes.now c.loop-node-test.false) c.loop-node.invariant
