use Rattle.std.proofs.Common.{◌∙◌}
use Rattle.std.proofs.lemmas.Iterator.Adapters.{fact_from_collect, YieldsList-from_vec}
use Rattle.std.proofs.lemmas.Result.{IfOk-weaker}
use Rattle.std.specs.BTreeSet.{IsFromIterResult}
use Rattle.hg_changeset.specs.Node.{node_cmp}
use Rattle.hg_instab.proofs.SetLemmas.{collected}
use Rattle.hg_instab.proofs.among.set_of.Goals as goal

pub returns : goal.returns
returns c =
    let nodes = c.args.nodes.items in
    let made = fact_from_collect (λ xs set. IsFromIterResult node_cmp xs set) c.collect.result c.collect.ensures.ran
    (YieldsList-from_vec nodes c.into_iter.ensures.rest (c.into_iter.ensures.len ∙ c.args.nodes.ok.0)) in
    IfOk-weaker c.collect.result _ _ (λ set h. collected nodes set h) made
