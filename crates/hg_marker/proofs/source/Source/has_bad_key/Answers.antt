use Rattle.std.proofs.Common.{ap, sym, ◌∙◌}
use Rattle.std.specs.FinMap.{entries}
use Rattle.hg_changeset.specs.EntryText.{date_text}
use Rattle.hg_marker.specs.Making.{has_bad_key}
use Rattle.hg_marker.specs.Source.{source_texts}
use Rattle.hg_marker.proofs.OperationLemmas.{noted, no_bad_key}
use Rattle.hg_marker.proofs.source.Source.has_bad_key.Goals as goal

pub returns-in-Note : goal.returns-in-Note
returns-in-Note c =
    let note = c.in-Note.field-0.now in
    sym (ap (λ s. has_bad_key (entries (source_texts s))) c.in-Note.is ∙ ap has_bad_key (noted note)
    ∙ no_bad_key (date_text note.secs note.offset) note.operation.now note.user.now note.parents)
