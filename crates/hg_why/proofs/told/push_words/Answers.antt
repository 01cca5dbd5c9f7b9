use Rattle.hg_log.proofs.DrawingLemmas.{Extends-trans}
use Rattle.hg_log.proofs.TextLemmas.{extends_by, last_extends}
use Rattle.hg_why.proofs.told.push_words.Goals as goal

pub returns : goal.returns
returns c =
    let line = c.args.line.now.items in
    let begun = c.push_text.new.line.items in
    let first = c.push_text-2.new.line.items in
    let divided = c.push_text-3.new.line.items in
    let second = c.push_text-4.new.line.items in
    let end = c.push_text-5.new.line.items in
    last_extends c.push_text-5.result line second end
    (Extends-trans line begun second (_, c.in_ok-push_text.ensures)
    (Extends-trans begun first second (_, c.in_ok-push_text-2.ensures)
    (Extends-trans first divided second (_, c.in_ok-push_text-3.ensures) (_, c.in_ok-push_text-4.ensures))))
    (extends_by c.push_text-5.result second end _ c.push_text-5.ensures)
