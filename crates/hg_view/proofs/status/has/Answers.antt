use Rattle.std.proofs.Common.{◌∙◌, sym}
use Rattle.std.proofs.lemmas.Map.Views.{btree_set_contains_iff}
use Rattle.hg_changeset.proofs.NodeLemmas.{node_cmp_total, node_cmp_exact}
use Rattle.hg_view.proofs.status.has.Goals as goal

pub returns : goal.returns
returns c =
    let iff = btree_set_contains_iff node_cmp_total node_cmp_exact c.args.set.now c.args.node in
    (λ h. iff.0 (sym c.contains.ensures ∙ h), λ h. c.contains.ensures ∙ iff.1 h)
