use Rattle.std.proofs.Common.{◌∙◌, List, subst}
use Rattle.std.proofs.lemmas.Iterator.Adapters.{fact_from_collect, YieldsList-from_vec}
use Rattle.std.proofs.lemmas.Result.{IfOk-weaker}
use Rattle.std.specs.BTreeSet.{IsFromIterResult}
use Rattle.hg_changeset.specs.Node.{node_cmp}
use Rattle.hg_changeset.specs.Contents.{Contents}
use Rattle.hg_graph.specs.Graph.{Selects}
use Rattle.hg_graph.specs.Marks.{IsMarkedNode}
use Rattle.hg_phases.specs.State.{changesets}
use Rattle.hg_instab.proofs.SetLemmas.{collected, along}
use Rattle.hg_view.proofs.ViewLemmas.{marked-are}
use Rattle.hg_view.proofs.view.set_at.Goals as goal

pub returns : goal.returns
returns c =
    let nodes = c.in_ok-nodes.nodes in
    let cs = changesets c.args.replica.now.history in
    let select = subst (λ (ds : List Contents). Selects ds (IsMarkedNode ds c.args.marks.now) nodes.items)
    c.graph.ensures.graph c.in_ok-nodes.ensures in
    let made = fact_from_collect (λ xs set. IsFromIterResult node_cmp xs set) c.collect.result c.collect.ensures.ran
    (YieldsList-from_vec nodes.items c.into_iter.ensures.rest (c.into_iter.ensures.len ∙ nodes.ok.0)) in
    IfOk-weaker c.collect.result
    _ _ (λ set h n. along (collected nodes.items set h n)
    (marked-are cs c.args.marks.now nodes.items select n)) made
