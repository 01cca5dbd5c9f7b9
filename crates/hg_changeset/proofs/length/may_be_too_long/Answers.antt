use Rattle.std.proofs.Common.{◌≤◌, length, ap, arith, rules}
use Rattle.std.proofs.lemmas.Bool.{ltb-false}
use Rattle.hg_changeset.specs.EntryValue.{EntryValue}
use Rattle.hg_changeset.specs.EntryText.{date_text}
use Rattle.hg_changeset.specs.WhiteSpace.{white_space}
use Rattle.hg_changeset.specs.Changeset.{text_limit}
use Rattle.hg_changeset.proofs.LengthLemmas.{trimmed_within, description_within}
use Rattle.hg_changeset.proofs.length.may_be_too_long.Goals as goal

pub returns : goal.returns
returns c = λ extras most no_more.
    let e = c.args.entry.now in
    let date : length (date_text e.secs e.offset) ≤ c.date_len_bound-known.result = search rules in
    omega (
      arith,
      most,
      ltb-false text_limit c.saturating_add-most.result no_more,
      date,
      trimmed_within white_space e.user,
      description_within e.desc,
      c.len.ensures,
      c.len-2.ensures,
      ap (λ (v : EntryValue). length v.user) c.entry.view_is,
      ap (λ (v : EntryValue). length v.desc) c.entry.view_is,
      c.saturating_add.ensures,
      c.saturating_add-2.ensures,
      c.saturating_add-most.ensures,
    )
