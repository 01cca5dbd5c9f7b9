use Rattle.std.proofs.Common.{◌≢◌, true≢false, ◌↔◌, List, Contains, refl, sym, subst, ◌∙◌}
use Rattle.std.proofs.lemmas.Map.Views.{btree_set_contains_iff}
use Rattle.hg_changeset.specs.declared.node.Node.{Node}
use Rattle.hg_changeset.proofs.NodeLemmas.{node_cmp_total, node_cmp_exact}
use Rattle.hg_instab.proofs.TurnLemmas.{node-removed}
use Rattle.hg_view.proofs.pins.Pins.unpin.Goals as goal

pub returns-then-remove : goal.returns-then-remove
returns-then-remove c =
    let set = c.self.inside.nodes in
    let node = c.args.node in
    let new = c.remove.new.self in
    let there : Contains set.keys node = (btree_set_contains_iff node_cmp_total node_cmp_exact set node).0
    (sym c.remove.ensures.test ∙ c.if-remove.true) in
    subst (λ (ns : List Node). Contains ns node × ((n : Node) → Contains new.keys n ↔ (Contains ns n × (n ≢ node))))
    c.self.view_is (there, node-removed set new node c.remove.ensures.updates)

pub returns : goal.returns
returns c =
    let set = c.self.inside.nodes in
    let node = c.args.node in (
      refl,
      λ there. true≢false
          (sym ((btree_set_contains_iff node_cmp_total node_cmp_exact set node).1
          (subst (λ (ns : List Node). Contains ns node) (sym c.self.view_is) there))
          ∙ sym c.remove.ensures.test ∙ c.if-remove.false),
      c.if-remove.ensures.unchanged ∙ c.self.view_is,
    )
