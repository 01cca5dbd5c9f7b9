use Rattle.hg_log.proofs.DrawingLemmas.{HasId-more}
use Rattle.hg_preview.proofs.comparison.write_phases_of.Goals as goal

pub returns : goal.returns
returns g c =
    let written = c.in_ok-write_line.ensures.written in
    let has = HasId-more c.args.node _ _ c.in_ok-push_named.ensures c.in_ok-push_phases.ensures in
    (written.0, (c.push_phases.new.line.items, has, written.1), written.2)
