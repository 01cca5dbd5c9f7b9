use Rattle.hg_log.proofs.DrawingLemmas.{Extends-trans}
use Rattle.hg_log.proofs.TextLemmas.{extends_by, last_extends}
use Rattle.hg_log.proofs.boxes.push_style.Goals as goal

pub returns : goal.returns
returns c =
    let line = c.args.line.now.items in
    let coloured = c.push_text.new.line.items in
    let styled = c.push_text-2.new.line.items in
    let end = c.push_text-3.new.line.items in
    last_extends c.push_text-3.result line styled end
    (Extends-trans line coloured styled (_, c.in_ok-push_text.ensures) (_, c.in_ok-push_text-2.ensures))
    (extends_by c.push_text-3.result styled end _ c.push_text-3.ensures)
