use Rattle.std.proofs.Common.{ap, sym, ◌∙◌}
use Rattle.hg_marker.specs.Parents.{names_parents}
use Rattle.hg_marker.specs.Source.{source_texts}
use Rattle.hg_marker.proofs.OperationLemmas.{note_names}
use Rattle.hg_marker.proofs.source.Source.names_parents.Goals as goal

pub returns-in-Note : goal.returns-in-Note
returns-in-Note c =
    c.is_some.ensures
    ∙ sym (ap names_parents (c.requires ∙ ap source_texts c.in-Note.is) ∙ note_names c.in-Note.note.now)
