use Rattle.std.proofs.Common.{arith}
use Rattle.std.proofs.lemmas.List.{length-take}
use Rattle.hg_log.proofs.titles.begins_with_manifest.Goals as goal

pub slice_bounds-are_digits-end : goal.slice_bounds-are_digits-end
slice_bounds-are_digits-end c =
    omega (arith, length-take 40 c.args.text.now, c.if-text-le-MANIFEST_DIGITS.false)
