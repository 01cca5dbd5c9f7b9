use Rattle.std.proofs.Common.{IsTrue, ◌↔◌, List, Contains, subst}
use Rattle.std.proofs.lemmas.Map.Views.{btree_set_contains_iff}
use Rattle.hg_changeset.specs.declared.node.Node.{Node}
use Rattle.hg_changeset.proofs.NodeLemmas.{node_cmp_total, node_cmp_exact}
use Rattle.hg_view.proofs.pins.Pins.is_pinned.Goals as goal

pub returns : goal.returns
returns c =
    let set = c.self.inside.nodes in
    let node = c.args.node in
    let told : IsTrue c.contains.result ↔ Contains set.keys node =
    rw c.contains.ensures (btree_set_contains_iff node_cmp_total node_cmp_exact set node) in
    subst (λ (ns : List Node). IsTrue c.contains.result ↔ Contains ns node) c.self.view_is told
