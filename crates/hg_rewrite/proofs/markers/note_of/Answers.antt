use Rattle.std.proofs.Common.{None, ap, ◌∙◌}
use Rattle.hg_changeset.specs.EntryValue.{EntryValue}
use Rattle.hg_rewrite.specs.Parts.{noted}
use Rattle.hg_rewrite.proofs.markers.note_of.Goals as goal

pub returns : goal.returns
returns c =
    c.noted.ensures ∙ (λ i. noted c.args.operation.now None
    ((c.deref.ensures.value ∙ ap (λ (e : EntryValue). e.user) c.entry.view_is) i) (c.date.ensures i).0
    (c.date.ensures i).1)
