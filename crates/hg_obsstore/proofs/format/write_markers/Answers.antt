use Rattle.std.proofs.Common.{take, drop, ◌∙◌}
use Rattle.std.proofs.lemmas.List.{take-append-drop}
use Rattle.hg_changeset.proofs.ListLemmas.{on_err_anyway}
use Rattle.hg_obsstore.proofs.FormatLemmas.{written_front}
use Rattle.hg_obsstore.proofs.format.write_markers.Goals as goal

pub returns-in_err-write_marker-clause-err : goal.returns-in_err-write_marker-clause-err
returns-in_err-write_marker-clause-err c =
    let ms = c.args.markers.now in
    let i = c.loop-marker.marker-index in
    on_err_anyway c.from_residual-in_err-write_marker.result _
    (written_front c.args.out.now.items c.write_marker.new.out.items (take i ms) (drop i ms) ms
    (c.in_err-write_marker.ensures.unchanged ∙ c.loop-marker.invariant) (take-append-drop i ms))
