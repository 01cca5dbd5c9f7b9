use Rattle.std.proofs.Common.{◌≡◌, ◌∙◌, ◌<◌, arith, length, slice_get, Some}
use Rattle.hg_discovery.specs.declared.finding.Finding.TheVariants.{Missing}
use Rattle.hg_discovery.specs.Under.{IsUnder, itself}
use Rattle.hg_discovery.specs.Children.{Stands}
use Rattle.hg_discovery.specs.Queue.{Grows, AreTaken}
use Rattle.hg_discovery.proofs.WalkLemmas.{IsWalked-start, ToChild, read, down_within, down_walked}
use Rattle.hg_discovery.proofs.WalkLemmas.{walked_missing}
use Rattle.hg_discovery.proofs.spread.make_missing.Goals as goal
use Rattle.hg_discovery.proofs.spread.make_missing.Goals.{After-index, After-index-in-loop-next}

pub loop-next-init : goal.loop-next-init
loop-next-init c =
    let ps = c.args.parents.now in
    let start = c.args.queue.now in
    let next : c.len-next.result ≡ length start.items = c.len-next.ensures ∙ start.ok.0 in
    rw next (IsWalked-start Missing (ToChild ps) (IsUnder ps c.args.place) c.args.place c.args.decided.now start.items
    (λ p k q m. c.requires.closed.missing k p q m) c.decide.new.decided c.decide.new.queue.items
    c.requires.undecided itself c.decide.ensures.grows c.in_ok-decide.ensures.taken)

-- the place that waits next
at : (c : After-index) → slice_get c.loop-next.queue.items c.loop-next.next ≡ Some c.index.result.now
at c = read c.loop-next.queue.items c.loop-next.next c.index.result.now
    (omega (arith, c.loop-next-test.true, c.len.ensures, c.loop-next.queue.ok.0)) c.index.ensures

within : (c : After-index) → c.index.result.now < length c.args.parents.now
within c = down_within _ _ c.requires.len c.requires.in_order c.requires.closed _ _ _ _ _ _ (at c) c.loop-next.invariant

-- its children
stretch : (c : After-index-in-loop-next) → c.index.result.now < length c.args.parents.now
    → slice_get c.args.children.now.stretches.items c.index.result.now ≡ Some c.index-in-loop-next.result.now
stretch c l = read c.args.children.now.stretches.items c.index.result.now c.index-in-loop-next.result.now
    (omega (arith, l, c.requires.children.len)) c.index-in-loop-next.ensures

pub index-requires-in-loop-next : goal.index-requires-in-loop-next
index-requires-in-loop-next c = omega (
  arith,
  within (goal.at.index-requires-in-loop-next c).After-index,
  c.requires.children.len,
  c.args.children.now.stretches.ok.0,
)

pub decide_children-requires : goal.decide_children-requires
decide_children-requires c =
    let h = goal.at.decide_children-requires c in
    rw c.deref.ensures.value
    (c.requires.children.within _ _ (stretch h.After-index-in-loop-next (within h.After-index)))

pub loop-next-preserved : goal.loop-next-preserved
loop-next-preserved c =
    let h = goal.at.loop-next-preserved c in
    let queue = c.loop-next.queue in
    let s = c.index-in-loop-next.result.now in
    let first : Grows (Stands c.args.children.now.places.items s.from s.to) Missing c.loop-next.decided queue.items
    c.decide_children.new.decided c.decide_children.new.queue.items =
    rw c.deref.ensures.value at c.decide_children.ensures.grows in
    let all : AreTaken (Stands c.args.children.now.places.items s.from s.to) Missing c.loop-next.decided
    c.decide_children.new.decided = rw c.deref.ensures.value at c.in_ok-decide_children.ensures.taken in
    down_walked _ _ c.requires.len c.requires.in_order c.requires.closed _ _ _ _ _ _ (at h.After-index)
    c.loop-next.invariant c.args.children.now.places.items c.args.children.now.stretches.items c.requires.children s
    (stretch h.After-index-in-loop-next (within h.After-index)) _ _ first all

pub returns-clause-decided : goal.returns-clause-decided
returns-clause-decided c =
    let queue = c.loop-next.queue in
    walked_missing c.args.parents.now c.args.place c.args.decided.now c.args.queue.now.items c.requires.closed
    c.loop-next.decided queue.items c.loop-next.next (omega
    (arith, c.loop-next-test.false, c.len.ensures, queue.ok.0)) c.loop-next.invariant
