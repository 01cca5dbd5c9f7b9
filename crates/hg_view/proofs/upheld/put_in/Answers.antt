use Rattle.std.proofs.Common.{◌<◌, ◌≤◌, true, List, [], get_or, length, Contains, inl, inr, sym, subst}
use Rattle.std.proofs.lemmas.List.{take_all}
use Rattle.std.proofs.lemmas.List.Elements.{Contains-append_left, Contains-append_right, Contains-append_cases}
use Rattle.std.specs.BTreeSet.{Updates}
use Rattle.hg_changeset.specs.declared.node.Node.{Node}
use Rattle.hg_changeset.specs.Node.{node_cmp}
use Rattle.hg_changeset.proofs.NodeLemmas.{node_cmp_total, node_cmp_exact}
use Rattle.hg_graph.proofs.WalkLemmas.{inserted, taken_one}
use Rattle.hg_obsstore.proofs.IndexLemmas.{Contains-take}
use Rattle.hg_view.proofs.upheld.put_in.Goals as goal

pub loop-node-preserved : goal.loop-node-preserved
loop-node-preserved c n =
    let first : Node = record { 0 = [] } in
    let xs = c.args.found.now.keys in
    let i = c.loop-node.node-index in
    let l : i < length xs = subst (λ (ns : List Node). i < length ns) c.as_slice-node-items.ensures.keys
    c.loop-node-test.true in
    let up : Updates node_cmp c.loop-node.upheld c.insert.new.self (get_or xs i first) true =
    subst (λ (ns : List Node). Updates node_cmp c.loop-node.upheld c.insert.new.self (get_or ns i first) true)
    c.as_slice-node-items.ensures.keys c.in-Ok.ensures.updates in
    let added = inserted node_cmp_total node_cmp_exact c.loop-node.upheld c.insert.new.self (get_or xs i first) up n in
    let more = taken_one xs i first n l in (
      λ h. elim (added.0 h) [
        | inl before ↦ elim ((c.loop-node.invariant n).0 before)
            [ inl old ↦ inl old | inr new ↦ inr (more.1 (inl new)) ]
        | inr e ↦ inr (more.1 (inr e))
      ],
      λ h. added.1 (elim h [
        | inl old ↦ inl ((c.loop-node.invariant n).1 (inl old))
        | inr new ↦ elim (more.0 new) [ inl before ↦ inl ((c.loop-node.invariant n).1 (inr before)) | inr e ↦ inr e ]
      ]),
    )

pub returns-in-Err-clause-err : goal.returns-in-Err-clause-err
returns-in-Err-clause-err c n =
    let same = c.in-Err.ensures.err in
    let left = c.take_out.ensures n in (
      λ h.
          let x = left.0 h in
          elim ((c.loop-node.invariant n).0 (subst (λ ns. Contains ns n) same x.0)) [
            | inl old ↦ old
            | inr new ↦ absurd (x.1 (Contains-take c.args.found.now.keys c.loop-node.node-index n new))
          ],
      λ h. left.1 (
        subst (λ ns. Contains ns n) (sym same) ((c.loop-node.invariant n).1 (inl h)),
        λ found. c.requires n found h,
      ),
    )

pub returns-clause-ok : goal.returns-clause-ok
returns-clause-ok c n =
    let U = c.args.upheld.now.keys in
    let xs = c.args.found.now.keys in
    let i = c.loop-node.node-index in
    let ended : length xs ≤ i = subst (λ (ns : List Node). length ns ≤ i) c.as_slice-node-items.ensures.keys
    c.loop-node-test.false in
    let all = take_all i xs ended in (
      λ h. elim ((c.loop-node.invariant n).0 h) [
        | inl old ↦ Contains-append_left U xs n old
        | inr new ↦ Contains-append_right U xs n (subst (λ ns. Contains ns n) all new)
      ],
      λ h. (c.loop-node.invariant n).1 (elim (Contains-append_cases U xs n h) [
        | inl old ↦ inl old
        | inr new ↦ inr (subst (λ ns. Contains ns n) (sym all) new)
      ]),
    )
