use Rattle.std.proofs.Common.{◌≡◌, get_or, [], inl, inr, Contains, sym, subst}
use Rattle.std.proofs.lemmas.List.{take_all}
use Rattle.hg_changeset.specs.declared.node.Node.{Node}
use Rattle.hg_changeset.proofs.NodeLemmas.{node_cmp_total, node_cmp_exact}
use Rattle.hg_graph.proofs.WalkLemmas.{inserted, taken_one}
use Rattle.hg_obsstore.proofs.IndexLemmas.{Contains-take}
use Rattle.hg_instab.proofs.turn.insert_all.Goals as goal

pub loop-node-preserved : goal.loop-node-preserved
loop-node-preserved c n =
    let xs = c.args.nodes.now in
    let i = c.loop-node.node-index in
    let first : Node = record { 0 = [] } in
    let added = inserted node_cmp_total node_cmp_exact c.loop-node.set c.insert.new.self (get_or xs i first)
    c.in_ok-insert.ensures.updates n in
    let more = taken_one xs i first n c.loop-node-test.true in (
      λ h. elim (added.0 h) [
        | inl before ↦ elim ((c.loop-node.invariant n).0 before)
            [ inl old ↦ inl old | inr new ↦ inr (more.1 (inl new)) ]
        | inr e ↦ inr (more.1 (inr e))
      ],
      λ h. added.1 (elim h [
        | inl old ↦ inl ((c.loop-node.invariant n).1 (inl old))
        | inr new ↦ elim (more.0 new) [ inl before ↦ inl ((c.loop-node.invariant n).1 (inr before)) | inr e ↦ inr e ]
      ]),
    )

pub returns-in_err-insert-clause-stage : goal.returns-in_err-insert-clause-stage
returns-in_err-insert-clause-stage c =
    let same : c.insert.new.self.keys ≡ c.loop-node.set.keys = c.in_err-insert.ensures.err in
    record {
      ordered = λ _. c.is_in_order.ensures;
      kept = λ n h. subst (λ ns. Contains ns n) (sym same) ((c.loop-node.invariant n).1 (inl h));
      from = λ n h. elim ((c.loop-node.invariant n).0 (subst (λ ns. Contains ns n) same h)) [
        | inl old ↦ inl old
        | inr new ↦ inr (Contains-take c.args.nodes.now c.loop-node.node-index n new)
      ];
    }

pub returns-clause-stage : goal.returns-clause-stage
returns-clause-stage c = record {
  ordered = λ _. c.is_in_order.ensures;
  kept = λ n h. (c.loop-node.invariant n).1 (inl h);
  from = λ n h. elim ((c.loop-node.invariant n).0 h) [
    | inl old ↦ inl old
    | inr new ↦ inr (Contains-take c.args.nodes.now c.loop-node.node-index n new)
  ];
}

pub returns-clause-all : goal.returns-clause-all
returns-clause-all c n h =
    let all = take_all c.loop-node.node-index c.args.nodes.now c.loop-node-test.false in
    (c.loop-node.invariant n).1 (inr (subst (λ ns. Contains ns n) (sym all) h))
