use Rattle.std.proofs.Common.{◌≡◌, ◌+◌, ◌<◌, ◌≤◌, ◌++◌, List, [], length, get_or, inl, inr, subst, ◌∙◌, arith}
use Rattle.std.proofs.lemmas.List.{get_or_default, get_or-append-add, length-append}
use Rattle.std.proofs.lemmas.List.Elements.{Contains-append_right}
use Rattle.hg_changeset.specs.declared.node.Node.{Node}
use Rattle.hg_replica.specs.Content.{content_of}
use Rattle.hg_instab.specs.Walk.{Adds}
use Rattle.hg_view.specs.Upheld.{IsMutableParent, IsUpholding}
use Rattle.hg_view.proofs.UpheldLemmas.{upholding-step, upholding-end, upheld-within}
use Rattle.hg_view.proofs.upheld.hang_below.Goals as goal

pub loop-next-smaller : goal.loop-next-smaller
loop-next-smaller c =
    let seen = c.loop-next.found.keys in
    let within = upheld-within c.args.replica.now c.in_ok-add_parents.ensures.valid seen
    (λ n h. c.loop-next.invariant.held n (Contains-append_right c.args.upheld.now.keys seen n h))
    c.len.ensures.unique in
    omega (arith, within, c.loop-next-test.true, c.len.ensures.len)

pub loop-next-preserved : goal.loop-next-preserved
loop-next-preserved c =
    let f = content_of c.args.replica.now in
    let U = c.args.upheld.now.keys in
    let seen = c.loop-next.found.keys in
    let new = c.add_parents.new.found.keys in
    let i = c.loop-next.next in
    let first : Node = record { 0 = [] } in
    let node = get_or seen i first in
    let l : i < length seen = omega (arith, c.loop-next-test.true, c.len.ensures.len) in
    let adds : Adds (IsMutableParent f node) (U ++ seen) (U ++ new) =
    subst (λ (ns : List Node). Adds (IsMutableParent f (get_or ns i first)) (U ++ seen) (U ++ new))
    c.as_slice.ensures.keys c.in_ok-add_parents.ensures.ok in
    let long = length-append U seen in
    let within : length U + i < length (U ++ seen) = omega (arith, l, long) in
    let at : get_or (U ++ seen) (length U + i) node ≡ node =
    get_or-append-add U seen i node ∙ get_or_default seen i node first l in
    let next : length U + i + 1 ≡ length U + (i + 1) = omega arith in
    record {
      held = λ n h. elim ((adds.members n).0 h) [
        | inl old ↦ c.loop-next.invariant.held n old
        | inr parent ↦ (parent.1.0, parent.1.1)
      ];
      apart = λ start. c.in_ok-add_parents.ensures.disjoint (c.loop-next.invariant.apart start);
      upholds = λ pins start. subst (IsUpholding f pins U (U ++ new)) next
          (upholding-step f pins U (U ++ seen) (U ++ new) (length U + i) node within at
          (c.loop-next.invariant.upholds pins start) adds);
    }

pub returns-clause-ok : goal.returns-clause-ok
returns-clause-ok c pins start =
    let U = c.args.upheld.now.keys in
    let seen = c.loop-next.found.keys in
    let long = length-append U seen in
    let ended : length (U ++ seen) ≤ length U + c.loop-next.next =
    omega (arith, long, c.loop-next-test.false, c.len.ensures.len) in
    upholding-end (content_of c.args.replica.now) pins U (U ++ seen) (length U + c.loop-next.next) ended
    (c.loop-next.invariant.upholds pins start)
