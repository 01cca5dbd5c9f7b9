use Rattle.std.proofs.Common.{◌≤◌, length, arith, rules}
use Rattle.hg_changeset.specs.EntryText.{date_text}
use Rattle.hg_marker.proofs.note.Note.len_bound.Goals as goal

pub returns : goal.returns
returns c =
    let note = c.args.self.now in
    let date : length (date_text note.secs note.offset) ≤ c.date_len_bound.result = search rules in
    omega (arith, date, c.len_with.ensures.within, c.len_with.ensures.len)
