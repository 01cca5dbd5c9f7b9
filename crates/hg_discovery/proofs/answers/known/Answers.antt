use Rattle.std.proofs.Common.{◌≡◌, ◌↔◌, ◌+◌, Bool, List, [], arith, get_or, take, sym, subst}
use Rattle.std.proofs.lemmas.List.{take_all}
use Rattle.hg_changeset.specs.declared.node.Node.{Node}
use Rattle.hg_graph.specs.Marks.{IsMarkedNode}
use Rattle.hg_phases.specs.State.{changesets}
use Rattle.hg_replica.specs.Content.{content_of}
use Rattle.hg_instab.proofs.SetLemmas.{along}
use Rattle.hg_view.specs.Pins.{IsServedUnder}
use Rattle.hg_discovery.specs.Rounds.{AreKnown}
use Rattle.hg_discovery.proofs.KnownLemmas.{known_none, known_more}
use Rattle.hg_discovery.proofs.answers.known.Goals as goal

pub loop-node-init : goal.loop-node-init
loop-node-init c =
    let f = content_of c.args.replica.now in
    let pins = c.args.pins.now in
    subst (AreKnown f pins []) (sym c.in_ok-answers.ensures.items) (known_none (IsServedUnder f pins))

pub loop-node-preserved : goal.loop-node-preserved
loop-node-preserved c =
    let s = c.args.replica.now in
    let P = IsServedUnder (content_of s) c.args.pins.now in
    let nodes = c.args.nodes.now in
    let i = c.loop-node.node-index in
    let none : Node = record { 0 = [] } in
    let marked = rw c.graph-graph.ensures.graph at c.is_marked.ensures in
    let exact = subst (λ (marks : List Bool). (n : Node) → IsMarkedNode (changesets s.history) marks n ↔ P n)
    (sym c.deref.ensures.value) c.in_ok-served.ensures.exact in
    subst (AreKnown (content_of s) c.args.pins.now (take (i + 1) nodes)) (sym c.in_ok-push.ensures.items)
    (known_more P nodes c.loop-node.answers.items i none c.is_marked.result c.loop-node-test.true
    (along marked (exact (get_or nodes i none))) c.loop-node.invariant)

pub returns : goal.returns
returns c =
    let all : take c.loop-node.node-index c.args.nodes.now ≡ c.args.nodes.now =
    take_all c.loop-node.node-index c.args.nodes.now (omega (arith, c.loop-node-test.false)) in
    rw all at c.loop-node.invariant
