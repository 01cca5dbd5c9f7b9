use Rattle.std.proofs.Common.{◌≡◌, [], take, arith}
use Rattle.std.proofs.lemmas.List.{take_all}
use Rattle.hg_graph.proofs.MarkLemmas.{MarksAlso-then, taken_more}
use Rattle.hg_graph.proofs.graph.Graph.mark_nodes.Goals as goal

pub loop-node-preserved : goal.loop-node-preserved
loop-node-preserved c =
    let cs = c.args.self.now in
    let ns = c.args.nodes.now in
    let i = c.loop-node.node-index in
    MarksAlso-then c.args.low _ _ _ c.args.marks.now c.loop-node.marks c.mark.new.marks c.loop-node.invariant
    c.mark.ensures (λ k l. taken_more cs ns i (record { 0 = [] }) (omega arith) c.place.result
    c.place.ensures.place k)

pub returns : goal.returns
returns c =
    let all : take c.loop-node.node-index c.args.nodes.now ≡ c.args.nodes.now = take_all c.loop-node.node-index
    c.args.nodes.now (omega arith) in
    rw all at c.loop-node.invariant
