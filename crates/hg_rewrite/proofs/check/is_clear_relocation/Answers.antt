use Rattle.std.proofs.Common.{IsTrue, Contains, ◌↔◌, subst}
use Rattle.std.proofs.lemmas.Map.Views.{btree_set_contains_iff}
use Rattle.hg_changeset.proofs.NodeLemmas.{node_cmp_total, node_cmp_exact}
use Rattle.hg_rewrite.proofs.OrphanLemmas.{not_below_orphan, apart_linear}
use Rattle.hg_rewrite.proofs.check.is_clear_relocation.Goals as goal

pub returns-then-is_clear_of_orphans : goal.returns-then-is_clear_of_orphans
returns-then-is_clear_of_orphans c = λ clear.
    let s = c.args.kept.now.replica in
    let node = c.in-Relocate.node in
    let valid = c.replica.ensures.valid in
    let there : IsTrue c.contains.result ↔ Contains c.orphan.result.now.keys node =
    rw c.contains.ensures (btree_set_contains_iff node_cmp_total node_cmp_exact c.orphan.result.now node) in
    let orphan = (c.instabilities.ensures.orphan node).0
    (subst (λ ns. Contains ns node) c.orphan.ensures (there.0 c.if-not-contains.false)) in
    apart_linear s c.args.op.now node c.in-Relocate.p c.in-Relocate.q c.in-Relocate.entry c.in-Relocate.is
    (not_below_orphan s valid node c.in-Relocate.p orphan
    (c.is_clear_of_orphans.ensures.orphan c.if-is_clear_of_orphans.true)
    (c.is_clear_of_orphans.ensures.obsolete c.if-is_clear_of_orphans.true))
    (not_below_orphan s valid node c.in-Relocate.q orphan
    (c.is_clear_of_orphans-then-is_clear_of_orphans.ensures.orphan clear)
    (c.is_clear_of_orphans-then-is_clear_of_orphans.ensures.obsolete clear))
