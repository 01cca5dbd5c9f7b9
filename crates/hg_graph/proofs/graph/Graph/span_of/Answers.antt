use Rattle.std.proofs.Common.{◌≡◌, ◌+◌, [], take, subst, sym, arith}
use Rattle.std.proofs.lemmas.List.{take_all}
use Rattle.hg_changeset.specs.declared.node.Node.{Node}
use Rattle.hg_graph.proofs.HeadLemmas.{IsSpanOf, span_same, span_more}
use Rattle.hg_graph.proofs.graph.Graph.span_of.Goals as goal
use Rattle.hg_graph.proofs.graph.Graph.span_of.Goals.{in-Some, in_default}

pub loop-node-preserved : goal.loop-node-preserved
loop-node-preserved c =
    let cs = c.args.self.now in
    let ns = c.args.nodes.now in
    let i = c.loop-node.node-index in
    let d : Node = record { 0 = [] } in
    elim c.match-place.branch [
      | in-Some w ↦
          let wide = span_more cs ns i d (omega arith) c.place.result c.place.ensures.place w.in-Some.place w.in-Some.is
          c.loop-node.span c.loop-node.invariant w.widened.result w.widened.ensures in
          subst (IsSpanOf cs (take (i + 1) ns)) (sym w.span-is) wide
      | in_default w ↦ subst (IsSpanOf cs (take (i + 1) ns)) (sym w.span-is)
          (span_same cs ns i d (omega arith) c.place.result c.place.ensures.place w.in_default.is c.loop-node.span
          c.loop-node.invariant)
    ]

pub returns : goal.returns
returns c =
    let all : take c.loop-node.node-index c.args.nodes.now ≡ c.args.nodes.now = take_all c.loop-node.node-index
    c.args.nodes.now (omega arith) in
    subst (λ ns. IsSpanOf c.args.self.now ns c.loop-node.span) all c.loop-node.invariant
