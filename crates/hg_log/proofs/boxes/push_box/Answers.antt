use Rattle.std.proofs.lemmas.Result.{on_ok_weaker}
use Rattle.hg_log.proofs.DrawingLemmas.{HasId-extended}
use Rattle.hg_log.proofs.boxes.push_box.Goals as goal

pub returns : goal.returns
returns c =
    on_ok_weaker c.push_label_below.result (HasId-extended c.args.node c.push_text.new.line.items
    c.push_short_id.new.line.items c.push_label_below.new.line.items c.in_ok-push_short_id.ensures)
    c.push_label_below.ensures
