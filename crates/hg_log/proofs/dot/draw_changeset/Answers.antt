use Rattle.hg_log.proofs.DrawingLemmas.{HasId-more}
use Rattle.hg_log.proofs.TextLemmas.{at_ok, last_drawn, last_grows}
use Rattle.hg_log.proofs.dot.draw_changeset.Goals as goal

pub returns : goal.returns
returns g c =
    let n = c.node_at-node.result in
    let written = c.in_ok-write_appended.ensures in
    let looks = c.push_looks-appended in
    let line = looks.new.line.items in
    let has = HasId-more n c.push_box.new.line.items line c.in_ok-push_box.ensures
    (at_ok looks.result written.0 looks.ensures) in
    let edges = last_grows c.draw_parent_edge-2.result _ _ _ c.in_ok-draw_parent_edge.ensures
    c.draw_parent_edge-2.ensures in
    last_drawn c.draw_parent_edge-2.result c.args.kept.now c.args.place n line _ _ _ c.node_at-node.ensures has
    written.1 edges
