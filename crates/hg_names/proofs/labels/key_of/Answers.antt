use Rattle.std.proofs.Common.{rules, ◌≡◌, ◌<◌, arith, get_or, length, take}
use Rattle.std.proofs.lemmas.Bool.{lt-ltb}
use Rattle.std.proofs.lemmas.Grind.{get_or_default_zero}
use Rattle.std.proofs.lemmas.List.{length-take}
use Rattle.std.proofs.lemmas.List.Sums.{list_all-from_AllPass}
use Rattle.hg_names.specs.Labels.{is_byte}
use Rattle.hg_names.proofs.DigitLemmas.{room}
use Rattle.hg_names.proofs.labels.key_of.Goals as goal

pub overflow_mul-key : goal.overflow_mul-key
overflow_mul-key c =
    let label = c.args.label.now in
    let before : c.loop-byte.byte-index < length label = search rules in
    let few : length (take c.loop-byte.byte-index label) < 7 =
    omega (arith, length-take c.loop-byte.byte-index label, before, c.requires) in
    let below = room (take c.loop-byte.byte-index label) few in
    omega (arith, c.loop-byte.invariant.below, below)

pub returns-clause-bytes : goal.returns-clause-bytes
returns-clause-bytes c = list_all-from_AllPass is_byte c.args.label.now (λ k d l.
    let read : get_or c.args.label.now k d ≡ get_or c.args.label.now k 0 =
    get_or_default_zero c.args.label.now k d l in
    let fits : get_or c.args.label.now k d < 256 = omega (arith, read, c.type_inv.label k) in
    lt-ltb (get_or c.args.label.now k d) 256 fits)
