use Rattle.std.proofs.Common.{◌<◌, List, [], length, get_or, subst, arith}
use Rattle.std.proofs.lemmas.List.{get_or_default}
use Rattle.hg_changeset.specs.declared.node.Node.{Node}
use Rattle.hg_instab.specs.declared.walk.Followed.TheVariants.{NotBumpedFix}
use Rattle.hg_instab.specs.declared.walk.Way.TheVariants.{ToSuccessors}
use Rattle.hg_instab.specs.AfterPublic.{beyond, IsRewrittenBeyond}
use Rattle.hg_instab.specs.Walk.{Adds}
use Rattle.hg_instab.proofs.WalkLemmas.{walk-start, walk-step, walk-within, walk-end}
use Rattle.hg_instab.proofs.after_public.reached_beyond.Goals as goal

pub loop-next-init : goal.loop-next-init
loop-next-init c =
    walk-start (ToSuccessors NotBumpedFix) (beyond c.args.known.now.keys c.args.store.now) c.args.starts.keys

pub loop-next-smaller : goal.loop-next-smaller
loop-next-smaller c =
    let within = walk-within (ToSuccessors NotBumpedFix) (beyond c.args.known.now.keys c.args.store.now)
    c.args.starts.keys c.loop-next.seen.keys c.loop-next.next c.loop-next.invariant c.len.ensures.unique in
    omega (arith, within, c.loop-next-test.true, c.len.ensures.len)

pub loop-next-preserved : goal.loop-next-preserved
loop-next-preserved c =
    let known = c.args.known.now.keys in
    let ms = c.args.store.now in
    let seen = c.loop-next.seen.keys in
    let i = c.loop-next.next in
    let first : Node = record { 0 = [] } in
    let node = get_or seen i first in
    let l : i < length seen = omega (arith, c.loop-next-test.true, c.len.ensures.len) in
    walk-step (ToSuccessors NotBumpedFix) (beyond known ms) c.args.starts.keys seen c.add_beyond.new.seen.keys i node l
    (get_or_default seen i node first l) c.loop-next.invariant
    (subst (λ (ns : List Node). Adds (IsRewrittenBeyond known ms (get_or ns i first)) seen c.add_beyond.new.seen.keys)
    c.as_slice.ensures.keys c.in_ok-add_beyond.ensures)

pub returns : goal.returns
returns c = walk-end (ToSuccessors NotBumpedFix) (beyond c.args.known.now.keys c.args.store.now) c.args.starts.keys
    c.loop-next.seen.keys c.loop-next.next c.loop-next.invariant
    (omega (arith, c.loop-next-test.false, c.len.ensures.len))
