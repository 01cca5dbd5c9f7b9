use Rattle.std.proofs.Common.{rules, ◌≡◌, sym, subst}
use Rattle.std.specs.List.Sorted.{IsStrictlySortedBy}
use Rattle.std.specs.Ordering.{nat_cmp}
use Rattle.hg_phases.specs.State.{state_of}
use Rattle.hg_phases.specs.Roots.{AreRoots}
use Rattle.hg_phases.proofs.RootPlaceLemmas.{ListsRoots, lists-next, lists-left, lists-all, listed-are, root-stands}
use Rattle.hg_phases.proofs.root_places.roots_listed.Goals as goal

pub loop-place-preserved-in-Continue-1 : goal.loop-place-preserved-in-Continue-1
loop-place-preserved-in-Continue-1 c =
    let after = c.next.new.self in (
      lists-next _ _ _ _ _ _ _
          _ _ _ c.in-Some.ensures.steps c.at.ensures (sym c.in-Some-node_at.ensures)
          c.in_ok-push-in-Some-node_at.ensures.items c.loop-place.invariant.0,
      (lists-left _ _ _ _ c.in-Some.ensures.steps
          c.loop-place.invariant.1).1,
    )

pub loop-place-preserved : goal.loop-place-preserved
loop-place-preserved c =
    let left = lists-left _ _ _ _ c.in-Some.ensures.steps c.loop-place.invariant.1 in
    absurd (root-stands _ _ c.requires.len _
    ((c.requires.all c.in-Some.place.now).0 left.0) (sym c.in-None-node_at.ensures))

pub returns : goal.returns
returns c =
    let cs = c.args.graph.now in
    let ks = c.args.phases.now in
    let keys = c.args.places.now.keys in
    let all : c.into_iter-place-iterator.result ≡ keys = search rules in
    let sorted : IsStrictlySortedBy nat_cmp keys = search rules in
    let lists = lists-all _ _ _ _ _ c.in-None.ensures.steps.0 c.loop-place.invariant.0 in
    subst (AreRoots (state_of cs ks)) (sym c.new.ensures) (listed-are _ _ _ _ sorted c.requires.all
    (subst (λ xs. ListsRoots cs ks xs c.loop-place.listed.items) all lists))
