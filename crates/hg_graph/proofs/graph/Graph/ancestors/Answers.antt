use Rattle.std.proofs.lemmas.Result.{IfOk-weaker}
use Rattle.hg_graph.specs.Graph.{IsAncestorOfOne, Selects}
use Rattle.hg_graph.specs.Marks.{IsMarkedNode}
use Rattle.hg_graph.proofs.MarkLemmas.{Selects-same}
use Rattle.hg_graph.proofs.graph.Graph.ancestors.Goals as goal

pub returns : goal.returns
returns c =
    let cs = c.args.self.now in
    let P = IsMarkedNode cs c.deref.result.now in
    let Q = IsAncestorOfOne cs c.args.nodes.now in
    IfOk-weaker c.marked.result (λ found. Selects cs P found.items) (λ found. Selects cs Q found.items)
    (λ found h. Selects-same cs P Q found.items (rw c.deref.ensures.value c.in_ok-marks.ensures.marked) h)
    c.marked.ensures
