use Rattle.std.proofs.Common.{sym}
use Rattle.hg_node_set.proofs.KeyLemmas.{number_at}
use Rattle.hg_node_set.proofs.set.NodeSet.get_index_of.Goals as goal

pub returns-in-Some-clause-index : goal.returns-in-Some-clause-index
returns-in-Some-clause-index c =
    sym (number_at c.args.self.now.keys c.args.node c.in-Some.number c.in-Some.ensures.unique c.in-Some.ensures.at)
