use Rattle.hg_log.proofs.DrawingLemmas.{Extends-trans, HasId-coloured, HasId-more}
use Rattle.hg_log.proofs.TextLemmas.{last_has_id}
use Rattle.hg_log.proofs.log.push_description.Goals as goal

pub returns : goal.returns
returns c =
    let id = c.push_id.new.line.items in
    let label = c.push_label_of.new.line.items in
    let divided = c.push_text.new.line.items in
    let phase = c.push_text-2.new.line.items in
    last_has_id c.push_unstable.result c.args.node phase c.push_unstable.new.line.items
    (HasId-more c.args.node id phase
    (HasId-coloured c.args.node c.args.is_coloured c.args.line.now.items id c.in_ok-push_id.ensures)
    (Extends-trans id label phase c.in_ok-push_label_of.ensures
    (Extends-trans label divided phase (_, c.in_ok-push_text.ensures) (_, c.in_ok-push_text-2.ensures))))
    c.push_unstable.ensures
