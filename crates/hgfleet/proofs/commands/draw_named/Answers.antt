use Rattle.std.proofs.Common.{List, OnOk, map, subst, sym}
use Rattle.std.specs.Io.KnownBytes.{Appends}
use Rattle.hg_log.specs.Drawings.{Text}
use Rattle.hgfleet.specs.declared.commands.Overview.{Overview}
use Rattle.hgfleet.specs.Commands.{AreShown}
use Rattle.hgfleet.proofs.commands.draw_named.Goals as goal

pub returns-in-Each : goal.returns-in-Each
returns-in-Each g c =
    let names : List Text = map (λ name. name.now) c.args.names.now in
    subst (λ (o : Overview). OnOk c.draw_all.result ((text : Text) × AreShown c.args.fleet.now o names text
    × Appends (g.W.Write.contents c.args.writer.now) (g.W.Write.contents c.draw_all.new.writer) text))
    (sym c.in-Each.is) c.draw_all.ensures
