use Rattle.hg_why.proofs.ReasonLemmas.{drawn_line}
use Rattle.hg_why.proofs.told.Telling.write_phase_divergent.Goals as goal

pub returns : goal.returns
returns g c =
    let appended = c.push_phase_divergent-appended in
    drawn_line appended.result c.write_appended.result c.args.predecessor appended.new.line.items _ _ appended.ensures
    c.write_appended.ensures
