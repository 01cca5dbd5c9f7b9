use Rattle.std.proofs.Common.{reverse, rules}
use Rattle.std.specs.FinMap.{from_entries}
use Rattle.std.specs.Int.{w32, w64}
use Rattle.std.proofs.lemmas.Int.{to_z-of_z}
use Rattle.hg_changeset.specs.EntryText.{date_text}
use Rattle.hg_marker.specs.Operation.{operation_entries}
use Rattle.hg_marker.specs.Texts.{bytes_cmp}
use Rattle.hg_rewrite.specs.Parts.{noted}
use Rattle.hg_rewrite.proofs.markers.noted.Goals as goal

pub returns : goal.returns
unfolding noted
returns c =
    let date = c.args.date in
    λ i. from_entries {R = bytes_cmp} (reverse (operation_entries
    (date_text (to_z-of_z w64 date.0 (search rules) i) (to_z-of_z w32 date.1 (search rules) i))
    c.args.operation.now c.args.parents (c.trimmed_user.ensures i)))
