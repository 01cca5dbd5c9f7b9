use Rattle.std.proofs.Common.{ap, sym, ◌∙◌}
use Rattle.std.specs.FinMap.{entries}
use Rattle.hg_marker.specs.Making.{has_bad_value}
use Rattle.hg_marker.specs.Source.{source_texts}
use Rattle.hg_marker.proofs.OperationLemmas.{noted}
use Rattle.hg_marker.proofs.source.Source.has_bad_value.Goals as goal

pub returns-in-Note : goal.returns-in-Note
returns-in-Note c =
    c.has_bad_value-in-Note.ensures
    ∙ sym (ap (λ s. has_bad_value (entries (source_texts s))) c.in-Note.is
    ∙ ap has_bad_value (noted c.in-Note.note.now))
