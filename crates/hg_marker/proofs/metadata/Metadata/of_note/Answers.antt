use Rattle.std.proofs.Common.{◌∙◌}
use Rattle.hg_marker.proofs.FormLemmas.{written_so, spelled_so}
use Rattle.hg_marker.proofs.OperationLemmas.{note_writable, note_laid}
use Rattle.hg_marker.proofs.metadata.Metadata.of_note.Goals as goal

pub invariant_of-result : goal.invariant_of-result
invariant_of-result c =
    let note = c.args.note.now in
    written_so _ _ (c.in_ok-write.ensures ∙ note_laid note) (note_writable note c.requires)

pub returns : goal.returns
returns c =
    let note = c.args.note.now in
    spelled_so _ _ (c.in_ok-write.ensures ∙ note_laid note) (note_writable note c.requires)
