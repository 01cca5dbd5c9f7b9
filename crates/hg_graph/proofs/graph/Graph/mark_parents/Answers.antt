use Rattle.hg_graph.proofs.MarkLemmas.{MarksAlso-then}
use Rattle.hg_graph.proofs.graph.Graph.mark_parents.Goals as goal

pub returns : goal.returns
returns c =
    MarksAlso-then c.args.low _ _ _ c.args.marks.now c.mark.new.marks c.mark-2.new.marks c.mark.ensures c.mark-2.ensures
    (λ k l. c.parent_places-parents.ensures.places k)
