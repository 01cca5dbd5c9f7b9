use Rattle.std.proofs.Common.{true≢false, IsTrue, Contains, ◌↔◌, sym, subst, ◌∙◌}
use Rattle.std.proofs.lemmas.Map.Views.{btree_set_contains_iff}
use Rattle.hg_changeset.proofs.NodeLemmas.{node_cmp_total, node_cmp_exact}
use Rattle.hg_instab.proofs.QueryLemmas.{isnt_so}
use Rattle.hg_rewrite.proofs.check.is_clear_of_orphans.Goals as goal

pub returns-then-not-contains-clause-orphan : goal.returns-then-not-contains-clause-orphan
returns-then-not-contains-clause-orphan c = λ _ orphan.
    let told : IsTrue c.contains.result ↔ Contains c.orphan.result.now.keys c.args.node =
    rw c.contains.ensures (btree_set_contains_iff node_cmp_total node_cmp_exact c.orphan.result.now c.args.node) in
    true≢false (sym (told.1 (subst (λ ns. Contains ns c.args.node) (sym c.orphan.ensures)
    ((c.instabilities-sets.ensures.orphan c.args.node).1 orphan))) ∙ c.if-not-contains.true)

pub returns-then-not-contains-clause-obsolete : goal.returns-then-not-contains-clause-obsolete
returns-then-not-contains-clause-obsolete c = λ none obsolete.
    let told : IsTrue c.contains-then-not-contains.result ↔ Contains c.obsolete.result.now.keys c.args.node =
    rw c.contains-then-not-contains.ensures
    (btree_set_contains_iff node_cmp_total node_cmp_exact c.obsolete.result.now c.args.node) in
    (isnt_so c.contains-then-not-contains.result (Contains c.obsolete.result.now.keys c.args.node) told).0 none
    (subst (λ ns. Contains ns c.args.node) (sym c.obsolete.ensures)
    ((c.instabilities-sets.ensures.obsolete c.args.node).1 obsolete))
