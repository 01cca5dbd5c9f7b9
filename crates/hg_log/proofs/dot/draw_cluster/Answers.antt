use Rattle.std.proofs.lemmas.Result.{on_ok_weaker}
use Rattle.hg_log.specs.Drawings.{Grows}
use Rattle.hg_log.proofs.GraphLemmas.{cluster_written}
use Rattle.hg_log.proofs.dot.draw_cluster.Goals as goal

pub returns : goal.returns
returns g c =
    let heading = c.in_ok-write_appended.ensures.1 in
    let shown = c.args.cluster.now.shown in
    let first : Grows (g.W.Write.contents c.args.writer.now) (g.W.Write.contents c.write_appended.new.writer) =
    (heading.0, heading.2) in
    on_ok_weaker c.write_bytes.result
    (cluster_written shown.kept.now shown.shows_hidden _ _ _ _ _ _ first c.in_ok-draw_changesets.ensures
    c.in_ok-draw_markers.ensures)
    c.write_bytes.ensures.ok
