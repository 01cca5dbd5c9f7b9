use Rattle.hg_log.proofs.DrawingLemmas.{Extends-trans}
use Rattle.hg_log.proofs.TextLemmas.{last_extends}
use Rattle.hg_log.proofs.boxes.push_state.Goals as goal

pub returns : goal.returns
returns c =
    let line = c.args.line.now.items in
    let divided = c.push_text.new.line.items in
    let phase = c.push_text-2.new.line.items in
    last_extends c.push_unstable.result line phase c.push_unstable.new.line.items
    (Extends-trans line divided phase (_, c.in_ok-push_text.ensures) (_, c.in_ok-push_text-2.ensures))
    c.push_unstable.ensures
