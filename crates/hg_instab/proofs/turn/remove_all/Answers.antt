use Rattle.std.proofs.Common.{get_or, [], inl, inr, Contains, sym, subst}
use Rattle.std.proofs.lemmas.List.{take_all}
use Rattle.hg_changeset.specs.declared.node.Node.{Node}
use Rattle.hg_graph.proofs.WalkLemmas.{taken_one}
use Rattle.hg_instab.proofs.TurnLemmas.{node-removed}
use Rattle.hg_instab.proofs.turn.remove_all.Goals as goal

pub loop-node-preserved : goal.loop-node-preserved
loop-node-preserved c = record {
  ordered = c.remove.ensures.ordered;
  members = λ n.
      let xs = c.args.nodes.now in
      let i = c.loop-node.node-index in
      let first : Node = record { 0 = [] } in
      let less = node-removed c.loop-node.set c.remove.new.self (get_or xs i first) c.remove.ensures.updates n in
      let more = taken_one xs i first n c.loop-node-test.true in
      let before = c.loop-node.invariant.members n in (
        λ h.
            let x = less.0 h in
            let y = before.0 x.0 in
            (y.0, λ t. elim (more.0 t) [ inl old ↦ y.1 old | inr e ↦ x.1 (sym e) ]),
        λ h. less.1 (
          before.1 (h.0, λ t. h.1 (more.1 (inl t))),
          λ e. h.1 (more.1 (inr (sym e))),
        ),
      );
}

pub returns-clause-members : goal.returns-clause-members
returns-clause-members c n =
    let all = take_all c.loop-node.node-index c.args.nodes.now c.loop-node-test.false in
    let is = c.loop-node.invariant.members n in (
      λ h. let x = is.0 h in (x.0, λ t. x.1 (subst (λ ns. Contains ns n) (sym all) t)),
      λ h. is.1 (h.0, λ t. h.1 (subst (λ ns. Contains ns n) all t)),
    )
