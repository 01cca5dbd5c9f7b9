use Rattle.hg_why.proofs.ReasonLemmas.{drawn_line, drawn_lines, no_lines}
use Rattle.hg_why.proofs.told.Telling.write_set.Goals as goal

pub returns-then-contains : goal.returns-then-contains
returns-then-contains g c = no_lines c.args.predecessor (g.W.Write.contents c.args.writer.now)

pub returns : goal.returns
returns g c =
    let appended = c.push_other-appended in
    let n = c.args.predecessor in
    drawn_lines c.write_appended.result n _ _
    (drawn_line appended.result c.write_appended.result n appended.new.line.items _ _ appended.ensures
    c.write_appended.ensures)
