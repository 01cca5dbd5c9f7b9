use Rattle.std.proofs.Common.{◌<◌, List, [], length, get_or, subst, arith}
use Rattle.std.proofs.lemmas.List.{get_or_default}
use Rattle.hg_changeset.specs.declared.node.Node.{Node}
use Rattle.hg_marker.specs.Fields.{Fields}
use Rattle.hg_instab.specs.Walk.{Adds}
use Rattle.hg_why.specs.Before.{IsBack}
use Rattle.hg_why.proofs.BeforeLemmas.{back-start, back-step, back-within, back-end}
use Rattle.hg_why.proofs.before.preceding.Goals as goal

pub loop-next-init : goal.loop-next-init
loop-next-init c = back-start c.args.replica.now c.args.steps c.args.node c.with_keys-found.result.keys
    c.add_back.new.found.keys c.with_keys-found.ensures
    (subst (λ (ms : List Fields). Adds (IsBack c.args.steps ms c.args.node) c.with_keys-found.result.keys
    c.add_back.new.found.keys) c.store-store.ensures c.in_ok-add_back.ensures)

pub loop-next-smaller : goal.loop-next-smaller
loop-next-smaller c =
    let within = back-within c.args.replica.now c.args.steps c.args.node c.loop-next.found.keys c.loop-next.next
    c.loop-next.invariant c.len.ensures.unique in
    omega (arith, within, c.loop-next-test.true, c.len.ensures.len)

pub loop-next-preserved : goal.loop-next-preserved
loop-next-preserved c =
    let found = c.loop-next.found.keys in
    let i = c.loop-next.next in
    let first : Node = record { 0 = [] } in
    let node = get_or found i first in
    let l : i < length found = omega (arith, c.loop-next-test.true, c.len.ensures.len) in
    let new = c.add_back-in-loop-next.new.found.keys in
    let here = subst (λ (ns : List Node). Adds (IsBack c.args.steps c.store-store.result.now (get_or ns i first))
    found new) c.as_slice.ensures.keys c.in_ok-add_back-2.ensures in
    back-step c.args.replica.now c.args.steps c.args.node found new i node l (get_or_default found i node first l)
    c.loop-next.invariant (subst (λ (ms : List Fields). Adds (IsBack c.args.steps ms node) found new)
    c.store-store.ensures here)

pub returns : goal.returns
returns c = back-end c.args.replica.now c.args.steps c.args.node c.loop-next.found.keys c.loop-next.next
    c.loop-next.invariant (omega (arith, c.loop-next-test.false, c.len.ensures.len))
