use Rattle.std.proofs.Common.{List, [], get_or, Contains, inl, inr, sym, subst}
use Rattle.std.proofs.lemmas.List.{get_or_default, take_all}
use Rattle.hg_changeset.specs.declared.node.Node.{Node}
use Rattle.hg_node_set.specs.Keys.{insert_key}
use Rattle.hg_node_set.proofs.CallerLemmas.{Contains-insert_key, Contains-insert_key_kept}
use Rattle.hg_succ.proofs.NumberLemmas.{more_of}
use Rattle.hg_succ.proofs.numbered.set_of.Goals as goal

pub loop-node-preserved : goal.loop-node-preserved
loop-node-preserved c n h =
    let nodes = c.args.nodes.now in
    let i = c.loop-node.node-index in
    let first : Node = record { 0 = [] } in
    let x = get_or nodes i first in
    let keys = c.loop-node.set.keys in
    subst (λ (ks : List Node). Contains ks n) (sym c.in_ok-insert.ensures.keys)
    (elim ((more_of nodes i x c.loop-node-test.true (sym (get_or_default nodes i x first c.loop-node-test.true))
    n).0 h) [
      | inl before ↦ Contains-insert_key_kept keys x n (c.loop-node.invariant n before)
      | inr same ↦ subst (Contains (insert_key keys x)) same (Contains-insert_key keys x)
    ])

pub returns : goal.returns
returns c n h =
    c.loop-node.invariant n
    (subst (λ (ns : List Node). Contains ns n)
    (sym (take_all c.loop-node.node-index c.args.nodes.now c.loop-node-test.false)) h)
