use Rattle.hg_log.proofs.TextLemmas.{at_ok, last_drawn}
use Rattle.hg_log.proofs.log.draw_changeset.Goals as goal

pub returns : goal.returns
returns g c =
    let written = c.in_ok-write_appended.ensures in
    let described = c.push_description-appended in
    last_drawn c.draw_below.result c.args.kept.now c.args.place c.node_at-node.result described.new.line.items _ _ _
    c.node_at-node.ensures (at_ok described.result written.0 described.ensures) written.1 c.draw_below.ensures
