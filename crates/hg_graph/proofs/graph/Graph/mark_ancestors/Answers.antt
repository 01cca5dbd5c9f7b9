use Rattle.hg_graph.proofs.MarkLemmas.{marked_are}
use Rattle.hg_graph.proofs.graph.Graph.mark_ancestors.Goals as goal

pub returns-clause-marked : goal.returns-clause-marked
returns-clause-marked c =
    marked_are c.args.self.now c.args.nodes.now c.args.marks.now c.mark_nodes.new.marks c.sweep.new.marks c.requires.len
    c.requires.clear c.mark_nodes.ensures c.sweep.ensures
