use Rattle.std.proofs.Common.{length}
use Rattle.hg_graph.specs.Links.{drop_last}
use Rattle.hg_graph.proofs.LinkLemmas.{lists_set, within_index}
use Rattle.hg_graph.proofs.links.forget_last.Goals as goal

pub returns-in-Some-clause-lists : goal.returns-in-Some-clause-lists
returns-in-Some-clause-lists c =
    let vectors = c.args.children.now.items in
    let old = c.index_mut.result.now in
    lists_set vectors c.args.parent c.in-Some.parent c.pop.new.self old drop_last c.in-Some.is
    (within_index c.args.parent c.in-Some.parent (length vectors) c.requires c.in-Some.is) c.index_mut.ensures.value
    c.pop.ensures.rest
