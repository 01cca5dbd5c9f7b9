use Rattle.std.proofs.Common.{true≢false, IsTrue, Contains, ◌↔◌, sym, ◌∙◌}
use Rattle.std.proofs.lemmas.Map.Views.{btree_set_contains_iff, Contains-from_any, list_any-from_Contains}
use Rattle.hg_changeset.proofs.NodeLemmas.{node_cmp_total, node_cmp_exact, same_node, node_eq_laws}
use Rattle.hg_instab.proofs.QueryLemmas.{isnt_so}
use Rattle.hg_view.proofs.released.is_left.Goals as goal

pub returns-then-contains : goal.returns-then-contains
returns-then-contains c =
    let node = c.args.node in
    let upheld = c.args.upheld.now.keys in
    let gone = c.args.gone.now.keys in
    let goes : IsTrue c.contains-then-contains.result ↔ Contains gone node = (
      λ t. Contains-from_any same_node node gone (sym c.contains-then-contains.ensures.contains ∙ t),
      λ h. c.contains-then-contains.ensures.contains ∙ list_any-from_Contains node_eq_laws node gone h,
    ) in
    let there : IsTrue c.contains.result ↔ Contains upheld node =
    rw c.contains.ensures (btree_set_contains_iff node_cmp_total node_cmp_exact c.args.upheld.now node) in
    let isnt = isnt_so c.contains-then-contains.result (Contains gone node) goes in (
      λ t. (
        there.0 c.if-contains.true,
        isnt.0 t,
      ),
      λ h. isnt.1 h.1,
    )

pub returns-else-contains : goal.returns-else-contains
returns-else-contains c =
    let there : IsTrue c.contains.result ↔ Contains c.args.upheld.now.keys c.args.node =
    rw c.contains.ensures (btree_set_contains_iff node_cmp_total node_cmp_exact c.args.upheld.now c.args.node) in (
      λ t. absurd (true≢false (sym t ∙ c.if-contains.false)),
      λ h. there.1 h.0,
    )
