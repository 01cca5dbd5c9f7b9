-- What the metadata of a marker is made of.
use Rattle.hg_marker.specs.declared.source.Source.{Source}
use Rattle.hg_marker.specs.declared.source.Source.TheVariants.{Map, Note}
use Rattle.hg_marker.specs.Texts.{Texts}
use Rattle.hg_marker.specs.Operation.{note_texts}

-- the texts of either kind
abbrev pub source_texts : Source → Texts
source_texts (Map texts) = texts.now
source_texts (Note note) = note_texts note.now
