use Rattle.std.proofs.Common.{◌∙◌, Option, ℕ, ap, is_some}
use Rattle.hg_node_set.proofs.KeyLemmas.{is_there}
use Rattle.hg_node_set.proofs.set.NodeSet.contains.Goals as goal

pub returns : goal.returns
returns c = record {
  contains = c.is_some.ensures ∙ ap (λ (o : Option ℕ). is_some o) c.get_index_of.ensures.index
      ∙ is_there c.args.self.now.keys c.args.node c.get_index_of.ensures.unique;
}
