use Rattle.std.proofs.Common.{OnOk, subst, sym}
use Rattle.std.specs.Io.KnownBytes.{Appends}
use Rattle.hg_log.specs.Drawings.{Text}
use Rattle.hgfleet.specs.declared.drawing.Drawing.{Drawing}
use Rattle.hgfleet.specs.Drawings.{IsDrawing}
use Rattle.hgfleet.proofs.drawing.draw.Goals as goal

pub returns-in-Log : goal.returns-in-Log
returns-in-Log g c =
    let held = g.W.Write.contents c.args.writer.now in
    let holds = g.W.Write.contents c.draw_below.new.writer in
    subst (λ (d : Drawing). OnOk c.draw_below.result
    ((text : Text) × IsDrawing d c.args.name.now c.args.kept.now text × Appends held holds text))
    (sym c.in-Log.is) c.draw_below.ensures

pub returns-in-Why : goal.returns-in-Why
returns-in-Why g c =
    let held = g.W.Write.contents c.args.writer.now in
    let holds = g.W.Write.contents c.write_why.new.writer in
    subst (λ (d : Drawing). OnOk c.write_why.result
    ((text : Text) × IsDrawing d c.args.name.now c.args.kept.now text × Appends held holds text))
    (sym c.in-Why.is) c.write_why.ensures
