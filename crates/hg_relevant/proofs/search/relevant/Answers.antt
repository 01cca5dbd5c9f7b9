use Rattle.std.proofs.Common.{◌<◌, refl, List, Bool, length, subst, arith}
use Rattle.std.proofs.lemmas.Option.{slice_get_read}
use Rattle.std.proofs.lemmas.Result.{IfOk-weaker}
use Rattle.hg_obsstore.specs.Places.{ListsAll}
use Rattle.hg_relevant.specs.Search.{IsMarked}
use Rattle.hg_relevant.proofs.RelevantLemmas.{queued-within, searched-next, searched-within, searched-end}
use Rattle.hg_relevant.proofs.search.relevant.Goals as goal

pub expand_predecessor-requires-clause-within : goal.expand_predecessor-requires-clause-within
expand_predecessor-requires-clause-within c =
    let queue = c.loop-next.search.queue.items in
    let l : c.loop-next.next < length queue = omega (arith, c.loop-next-test.true, c.len.ensures) in
    queued-within c.args.store.now c.args.nodes.now c.args.nodes.now c.loop-next.search c.loop-next.next
    c.index-place.result.now c.loop-next.invariant
    (slice_get_read queue _ c.loop-next.next c.index-place.result.now refl l c.index-place.ensures)

pub loop-next-smaller : goal.loop-next-smaller
loop-next-smaller c =
    let within = searched-within c.args.store.now c.args.nodes.now c.args.nodes.now c.loop-next.search c.loop-next.next
    c.loop-next.invariant in
    omega (arith, within, c.loop-next-test.true, c.len.ensures)

pub loop-next-preserved : goal.loop-next-preserved
loop-next-preserved c =
    let queue = c.loop-next.search.queue.items in
    let l : c.loop-next.next < length queue = omega (arith, c.loop-next-test.true, c.len.ensures) in
    searched-next c.args.store.now c.args.nodes.now c.loop-next.next c.index-place.result.now c.loop-next.search
    c.expand_predecessor.new.self (slice_get_read queue _ c.loop-next.next c.index-place.result.now refl l
    c.index-place.ensures) c.loop-next.invariant c.in_ok-expand_predecessor.ensures

pub returns : goal.returns
returns c =
    IfOk-weaker c.marked_places.result _ _
    (λ places all. searched-end c.args.store.now c.args.nodes.now c.loop-next.search c.loop-next.next
    c.loop-next.invariant (omega (arith, c.loop-next-test.false, c.len.ensures)) places.items
    (subst (λ (marks : List Bool). ListsAll (IsMarked marks) places.items) c.deref.ensures.value all))
    c.marked_places.ensures
