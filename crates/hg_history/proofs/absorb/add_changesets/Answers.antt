use Rattle.std.proofs.Common.{◌≡◌, ◌<◌, ◌∙◌, length, slice_get, Some, sym, ap, arith}
use Rattle.std.proofs.lemmas.Option.{slice_get-get_or}
use Rattle.hg_history.proofs.AddLemmas.{IsAdded-step, stays_added}
use Rattle.hg_history.proofs.absorb.add_changesets.Goals as goal

pub returns-in-Err : goal.returns-in-Err
returns-in-Err c =
    let x = c.changeset-item.result in
    let xs = c.args.changesets.now in
    let i = c.loop-changeset.changeset-index in
    let l : i < length xs = omega arith in
    let at : slice_get xs i ≡ Some x = slice_get-get_or xs i x l ∙ ap (λ y. Some y) (sym c.changeset-item.is) in
    stays_added c.args.graph.now c.args.phases.now xs i c.loop-changeset.graph c.loop-changeset.phases
    c.loop-changeset.invariant x at c.in-Err.fault c.add_one.new.graph c.add_one.new.phases c.in-Err.ensures

pub loop-changeset-preserved : goal.loop-changeset-preserved
loop-changeset-preserved c =
    let x = c.changeset-item.result in
    let xs = c.args.changesets.now in
    let i = c.loop-changeset.changeset-index in
    let l : i < length xs = omega arith in
    let at : slice_get xs i ≡ Some x = slice_get-get_or xs i x l ∙ ap (λ y. Some y) (sym c.changeset-item.is) in
    IsAdded-step c.args.graph.now c.args.phases.now xs i c.loop-changeset.graph c.loop-changeset.phases
    c.loop-changeset.invariant x at c.in-Ok.field-0 c.add_one.new.graph c.add_one.new.phases c.in-Ok.ensures
