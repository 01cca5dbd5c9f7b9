use Rattle.std.proofs.Common.{Bool, Contains, IsTrue, ◌↔◌, rules, tests, sym, subst}
use Rattle.std.specs.BTreeSet.{contains}
use Rattle.std.proofs.lemmas.Iterator.{YieldsList-from_slice}
use Rattle.std.proofs.lemmas.Iterator.Search.{any_from_yields_List}
use Rattle.std.proofs.lemmas.Map.Views.{btree_set_contains_iff}
use Rattle.hg_changeset.specs.Node.{node_cmp}
use Rattle.hg_changeset.proofs.NodeLemmas.{node_cmp_total, node_cmp_exact}
use Rattle.hg_instab.specs.Region.{IsOneNear}
use Rattle.hg_instab.proofs.RegionLemmas.{any-told}
use Rattle.hg_instab.proofs.near.is_one_near.Goals as goal

pub returns : goal.returns
returns c =
    let nodes = c.args.nodes.now in
    let near = c.args.near.now in
    let is = any_from_yields_List (contains node_cmp near) _ _ c.any.result c.any.ensures.ran
    (YieldsList-from_slice nodes cc) (λ x b q k. search (rules, tests)) in
    subst (λ (b : Bool). IsTrue b ↔ IsOneNear (Contains nodes) near.keys) (sym is)
    (any-told (contains node_cmp near) (Contains near.keys)
    (λ n. btree_set_contains_iff node_cmp_total node_cmp_exact near n) nodes)
