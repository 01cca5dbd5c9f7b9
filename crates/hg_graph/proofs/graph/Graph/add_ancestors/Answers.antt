use Rattle.hg_graph.proofs.MarkLemmas.{marked_above}
use Rattle.hg_graph.proofs.graph.Graph.add_ancestors.Goals as goal

pub returns-clause-marked : goal.returns-clause-marked
returns-clause-marked c = marked_above c.args.self.now c.args.marks.now c.sweep.new.marks c.sweep.ensures
