use Rattle.std.proofs.Common.{ap, sym, ◌∙◌}
use Rattle.std.specs.FinMap.{entries}
use Rattle.hg_marker.specs.Making.{has_bad_value}
use Rattle.hg_marker.specs.Source.{source_texts}
use Rattle.hg_marker.proofs.FormLemmas.{writable_parts}
use Rattle.hg_marker.proofs.OperationLemmas.{noted}
use Rattle.hg_marker.proofs.source.Source.to_metadata.Goals as goal

pub of_note-requires : goal.of_note-requires
of_note-requires c =
    sym (ap (λ s. has_bad_value (entries (source_texts s))) c.in-Note.is ∙ ap has_bad_value (noted c.in-Note.note.now))
    ∙ (writable_parts (source_texts c.args.self) c.requires).1
