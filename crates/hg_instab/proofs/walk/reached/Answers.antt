use Rattle.std.proofs.Common.{◌<◌, List, [], length, get_or, subst, arith}
use Rattle.std.proofs.lemmas.List.{get_or_default}
use Rattle.hg_changeset.specs.declared.node.Node.{Node}
use Rattle.hg_instab.specs.Walk.{Adds, IsStep}
use Rattle.hg_instab.proofs.WalkLemmas.{walk-start, walk-step, walk-within, walk-end}
use Rattle.hg_instab.proofs.walk.reached.Goals as goal

pub loop-next-init : goal.loop-next-init
loop-next-init c = walk-start c.args.way c.args.store.now c.args.starts.keys

pub loop-next-smaller : goal.loop-next-smaller
loop-next-smaller c =
    let within = walk-within c.args.way c.args.store.now c.args.starts.keys c.loop-next.seen.keys c.loop-next.next
    c.loop-next.invariant c.len.ensures.unique in
    omega (arith, within, c.loop-next-test.true, c.len.ensures.len)

pub loop-next-preserved : goal.loop-next-preserved
loop-next-preserved c =
    let seen = c.loop-next.seen.keys in
    let i = c.loop-next.next in
    let first : Node = record { 0 = [] } in
    let node = get_or seen i first in
    let l : i < length seen = omega (arith, c.loop-next-test.true, c.len.ensures.len) in
    walk-step c.args.way c.args.store.now c.args.starts.keys seen c.add_next.new.seen.keys i node l
    (get_or_default seen i node first l) c.loop-next.invariant
    (subst (λ (ns : List Node). Adds (IsStep c.args.way c.args.store.now (get_or ns i first)) seen
    c.add_next.new.seen.keys) c.as_slice.ensures.keys c.in_ok-add_next.ensures)

pub returns : goal.returns
returns c = walk-end c.args.way c.args.store.now c.args.starts.keys c.loop-next.seen.keys c.loop-next.next
    c.loop-next.invariant (omega (arith, c.loop-next-test.false, c.len.ensures.len))
