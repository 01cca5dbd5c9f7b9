use Rattle.std.proofs.Common.{true≢false, List, IsTrue, Contains, ◌↔◌, inl, inr, refl, sym, subst, ◌∙◌}
use Rattle.std.proofs.lemmas.Map.Views.{btree_set_contains_iff}
use Rattle.hg_changeset.specs.declared.node.Node.{Node}
use Rattle.hg_changeset.proofs.NodeLemmas.{node_cmp_total, node_cmp_exact}
use Rattle.hg_view.proofs.heads.stays_in_view.Goals as goal

pub returns-then-contains : goal.returns-then-contains
returns-then-contains c =
    let node = c.args.node in
    let there : IsTrue c.contains.result ↔ Contains c.suspended.result.now.keys node =
    rw c.contains.ensures
    (btree_set_contains_iff node_cmp_total node_cmp_exact c.suspended.result.now node) in (
      λ _. inl (subst (λ (ns : List Node). Contains ns node) c.suspended.ensures (there.0 c.if-contains.true)),
      λ _. refl,
    )

pub returns : goal.returns
returns c =
    let node = c.args.node in
    let there : IsTrue c.contains.result ↔ Contains c.suspended.result.now.keys node =
    rw c.contains.ensures
    (btree_set_contains_iff node_cmp_total node_cmp_exact c.suspended.result.now node) in
    let up : IsTrue c.contains-2.result ↔ Contains c.args.upheld.now.keys node =
    rw c.contains-2.ensures
    (btree_set_contains_iff node_cmp_total node_cmp_exact c.args.upheld.now node) in (
      λ h. inr (up.0 h),
      λ h. elim h [
        | inl is ↦ absurd (true≢false (sym (there.1 (subst (λ (ns : List Node). Contains ns node)
            (sym c.suspended.ensures) is)) ∙ c.if-contains.false))
        | inr in_it ↦ up.1 in_it
      ],
    )
