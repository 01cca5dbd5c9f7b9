use Rattle.hg_log.proofs.DrawingLemmas.{Extends-trans, HasId-extended}
use Rattle.hg_log.proofs.TextLemmas.{extends_by, last_has_id}
use Rattle.hg_why.proofs.told.Telling.push_unheld.Goals as goal

pub returns : goal.returns
returns c =
    let n = c.args.predecessor in
    let id = c.push_short_id.new.line.items in
    let divided = c.push_text-2.new.line.items in
    let name = c.push_text-3.new.line.items in
    let end = c.push_text-4.new.line.items in
    last_has_id c.push_text-4.result n name end
    (HasId-extended n c.push_text.new.line.items id name c.in_ok-push_short_id.ensures
    (Extends-trans id divided name (_, c.in_ok-push_text-2.ensures) (_, c.in_ok-push_text-3.ensures)))
    (extends_by c.push_text-4.result name end _ c.push_text-4.ensures)
