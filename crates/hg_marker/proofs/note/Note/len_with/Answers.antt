use Rattle.std.proofs.Common.{arith}
use Rattle.hg_changeset.specs.EntryText.{date_text}
use Rattle.hg_marker.proofs.OperationLemmas.{noted_len}
use Rattle.hg_marker.proofs.note.Note.len_with.Goals as goal

pub returns-clause-within : goal.returns-clause-within
returns-clause-within c =
    let note = c.args.self.now in
    omega (
      arith,
      noted_len (date_text note.secs note.offset) note.operation.now note.user.now note.parents c.parents_len.result
          c.parents_len.ensures.len,
    )

pub returns-clause-len : goal.returns-clause-len
returns-clause-len c =
    let note = c.args.self.now in
    omega (
      arith,
      noted_len (date_text note.secs note.offset) note.operation.now note.user.now note.parents c.parents_len.result
          c.parents_len.ensures.len,
      c.saturating_add.ensures,
      c.saturating_add-2.ensures,
    )
