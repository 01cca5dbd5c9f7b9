use Rattle.std.proofs.Common.{rules, tests, ◌≡◌, []}
use Rattle.std.proofs.lemmas.List.{nil_from_length}
use Rattle.hg_instab.proofs.QuickLemmas.{nothing-told}
use Rattle.hg_instab.proofs.quick.quick_turning.Goals as goal

pub returns-then-moves_nothing-clause-told : goal.returns-then-moves_nothing-clause-told
returns-then-moves_nothing-clause-told c s is at =
    let change = c.args.change.now in
    let unmarked : change.markers ≡ [] = nil_from_length _ (search (rules, tests)) in
    let are = c.moves_nothing.ensures c.if-moves_nothing.true in
    nothing-told s c.args.replica.now change c.is_valid.ensures is c.args.sets.now at are.0 are.1
    unmarked
