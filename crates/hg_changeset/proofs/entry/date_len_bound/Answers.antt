use Rattle.std.proofs.Common.{◌≡◌, ◌∷◌, sym, ◌∙◌, arith, rules}
use Rattle.std.specs.Prelude.{◌&&◌, nat_lt, unsigned_abs}
use Rattle.std.specs.Fmt.{signed_decimal}
use Rattle.std.proofs.lemmas.Fmt.{length_signed_le}
use Rattle.std.proofs.lemmas.List.{length-append}
use Rattle.hg_changeset.specs.Bytes.{space}
use Rattle.hg_changeset.proofs.EntryLemmas.{common_date}
use Rattle.hg_changeset.proofs.entry.date_len_bound.Goals as goal

pub returns-then-is_common-clause-most : goal.returns-then-is_common-clause-most
returns-then-is_common-clause-most c =
    let secs = c.args.secs in
    let offset = c.args.offset in
    let tested : c.is_common.result
    ≡ (nat_lt (unsigned_abs secs) 9999999999 && nat_lt (unsigned_abs offset) 99999) = search rules in
    common_date secs offset (sym tested ∙ c.if-is_common.true)

pub returns-else-is_common-clause-most : goal.returns-else-is_common-clause-most
returns-else-is_common-clause-most c =
    let secs = c.args.secs in
    let offset = c.args.offset in
    omega (
      arith,
      length-append (signed_decimal secs) (space ∷ signed_decimal offset),
      length_signed_le 19 secs (omega (arith, c.ranges.secs.sfits)) (omega (arith, c.ranges.secs.sfits)),
      length_signed_le 10 offset (omega (arith, c.ranges.offset.sfits)) (omega (arith, c.ranges.offset.sfits)),
    )
