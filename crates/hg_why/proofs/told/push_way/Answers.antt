use Rattle.hg_log.proofs.DrawingLemmas.{Extends-trans}
use Rattle.hg_why.proofs.told.push_way.Goals as goal

pub returns-in_ok-push_successors-in-Some : goal.returns-in_ok-push_successors-in-Some
returns-in_ok-push_successors-in-Some c =
    let line = c.args.line.now.items in
    let divided = c.push_text.new.line.items in
    let told = c.push_other_word.new.line.items in
    let end = c.push_successors.new.line.items in
    Extends-trans line told end
    (Extends-trans line divided told (_, c.in_ok-push_text-in-Some.ensures) c.in_ok-push_other_word-in-Some.ensures)
    c.in_ok-push_successors-in-Some.ensures
