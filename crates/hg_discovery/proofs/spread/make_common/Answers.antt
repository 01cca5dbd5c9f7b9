use Rattle.std.proofs.Common.{rules, ◌≡◌, ◌<◌, ◌∙◌, arith, length, slice_get, Some}
use Rattle.std.proofs.lemmas.Option.{slice_get-get_or}
use Rattle.hg_discovery.specs.declared.finding.Finding.TheVariants.{Common}
use Rattle.hg_discovery.specs.Under.{itself}
use Rattle.hg_discovery.proofs.WalkLemmas.{IsWalked-start, ToParent, Below, read, up_within, up_walked}
use Rattle.hg_discovery.proofs.WalkLemmas.{walked_common}
use Rattle.hg_discovery.proofs.spread.make_common.Goals as goal
use Rattle.hg_discovery.proofs.spread.make_common.Goals.{After-index}

pub loop-next-init : goal.loop-next-init
loop-next-init c =
    let ps = c.args.parents.now in
    let start = c.args.queue.now in
    let next : c.len-next.result ≡ length start.items = c.len-next.ensures ∙ start.ok.0 in
    rw next (IsWalked-start Common (ToParent ps) (Below ps c.args.place) c.args.place c.args.decided.now start.items
    c.requires.closed.common c.decide.new.decided c.decide.new.queue.items c.requires.undecided itself
    c.decide.ensures.grows c.in_ok-decide.ensures.taken)

-- the place that waits next
at : (c : After-index) → slice_get c.loop-next.queue.items c.loop-next.next ≡ Some c.index.result.now
at c = read c.loop-next.queue.items c.loop-next.next c.index.result.now
    (omega (arith, c.loop-next-test.true, c.len.ensures, c.loop-next.queue.ok.0)) c.index.ensures

within : (c : After-index) → c.index.result.now < length c.args.parents.now
within c = up_within _ _ c.requires.len c.requires.in_order c.requires.closed _ _ _ _ _ _ (at c) c.loop-next.invariant

pub offset_bounds-parents-index : goal.offset_bounds-parents-index
offset_bounds-parents-index c = let l = within (goal.at.offset_bounds-parents-index c).After-index in search rules

pub bounds-parents-index : goal.bounds-parents-index
bounds-parents-index c = within (goal.at.bounds-parents-index c).After-index

pub loop-next-preserved : goal.loop-next-preserved
loop-next-preserved c =
    let h = (goal.at.loop-next-preserved c).After-index in
    up_walked _ _ c.requires.len c.requires.in_order c.requires.closed _ _ _ _ _ _ (at h) c.loop-next.invariant _
    (slice_get-get_or c.args.parents.now c.index.result.now _ (within h)) _ _
    c.decide_parents.ensures.grows c.in_ok-decide_parents.ensures.taken

pub returns-clause-decided : goal.returns-clause-decided
returns-clause-decided c =
    let queue = c.loop-next.queue in
    walked_common c.args.parents.now c.args.place c.args.decided.now c.args.queue.now.items c.requires.closed
    c.loop-next.decided queue.items c.loop-next.next (omega
    (arith, c.loop-next-test.false, c.len.ensures, queue.ok.0)) c.loop-next.invariant
