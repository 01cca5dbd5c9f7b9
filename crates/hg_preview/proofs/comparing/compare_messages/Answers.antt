use Rattle.std.proofs.Common.{subst}
use Rattle.hg_preview.specs.Comparisons.{OpensMessage}
use Rattle.hg_preview.proofs.ComparingLemmas.{compared, first_unfit}
use Rattle.hg_preview.proofs.comparing.compare_messages.Goals as goal

pub returns-in-Some-2 : goal.returns-in-Some-2
returns-in-Some-2 g c =
    let first = c.args.first.now.bytes.now in
    let second = c.args.second.now.bytes.now in
    let a = g.W.Write.contents c.args.writer.now in
    let b = g.W.Write.contents c.open.new.writer in
    let d = g.W.Write.contents c.open-in-Some.new.writer in
    compared first second a b d (g.W.Write.contents c.compare_trials.new.writer) c.in-Some.mine c.in-Some-2.theirs
    c.in_ok-answer-in-Some-2.answer (subst (OpensMessage first a b) c.in-Some.is c.in_ok-mine.ensures)
    (subst (OpensMessage second b d) c.in-Some-2.is c.in_ok-theirs-in-Some.ensures) c.in_ok-answer-in-Some-2.ensures

pub returns : goal.returns
returns g c =
    let first = c.args.first.now.bytes.now in
    let a = g.W.Write.contents c.args.writer.now in
    let b = g.W.Write.contents c.open.new.writer in
    first_unfit first c.args.second.now.bytes.now a b (g.W.Write.contents c.open-in-None.new.writer)
    c.in_ok-open-in-None.field-0 (subst (OpensMessage first a b) c.in-None.is c.in_ok-mine.ensures)
    c.in_ok-open-in-None.ensures
