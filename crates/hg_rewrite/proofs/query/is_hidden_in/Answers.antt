use Rattle.std.proofs.Common.{true≢false, IsTrue, Contains, ◌↔◌, sym, subst, ◌∙◌}
use Rattle.std.proofs.lemmas.Map.Views.{btree_set_contains_iff}
use Rattle.hg_changeset.proofs.NodeLemmas.{node_cmp_total, node_cmp_exact}
use Rattle.hg_phases.specs.State.{Holds}
use Rattle.hg_history.proofs.ContentLemmas.{content-node, node_in_content}
use Rattle.hg_replica.specs.State.{ReplicaState}
use Rattle.hg_view.proofs.PinLemmas.{hidden_under-extinct}
use Rattle.hg_rewrite.proofs.ListLemmas.{not_true, not_untrue}
use Rattle.hg_rewrite.proofs.query.is_hidden_in.Goals as goal

pub returns-then-not-contains : goal.returns-then-not-contains
returns-then-not-contains c =
    let told : IsTrue c.contains.result ↔ Contains c.extinct.result.now.keys c.args.node =
    rw c.contains.ensures (btree_set_contains_iff node_cmp_total node_cmp_exact c.extinct.result.now c.args.node) in (
      (λ t. absurd (true≢false (sym t))),
      (λ hidden. absurd (true≢false (sym (told.1 (subst (λ ns. Contains ns c.args.node) (sym c.extinct.ensures)
          ((c.instabilities.ensures.extinct c.args.node).1 (hidden_under-extinct c.args.kept.now.replica
          c.args.kept.now.pins c.args.node c.replica-replica.ensures.valid hidden)))) ∙ c.if-not-contains.true))),
    )

pub returns-then-holds : goal.returns-then-holds
returns-then-holds c =
    let told = subst (λ (s : ReplicaState). IsTrue c.holds.result ↔ Holds s.history c.args.node)
    c.replica-replica.ensures.replica c.holds.ensures in
    let held = content-node c.args.kept.now.replica.history c.replica-replica.ensures.valid.graph c.args.node
    (told.0 c.if-holds.true) in (
      (λ t. (held, λ v. not_true c.is_visible.result t (c.is_visible.ensures.1 v))),
      (λ hidden. not_untrue c.is_visible.result (λ t. hidden.1 (c.is_visible.ensures.0 t))),
    )

pub returns-else-holds : goal.returns-else-holds
returns-else-holds c =
    let told = subst (λ (s : ReplicaState). IsTrue c.holds.result ↔ Holds s.history c.args.node)
    c.replica-replica.ensures.replica c.holds.ensures in (
      (λ t. absurd (true≢false (sym t ∙ c.if-holds.false))),
      (λ hidden. told.1
          (node_in_content c.args.kept.now.replica.history c.replica-replica.ensures.valid.graph c.args.node hidden.0)),
    )
