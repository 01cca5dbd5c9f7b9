use Rattle.std.proofs.Common.{[]}
use Rattle.std.proofs.lemmas.Result.{on_err_weaker}
use Rattle.hg_line.proofs.EndingLemmas.{refused_here}
use Rattle.hg_line.proofs.LineLemmas.{one_line}
use Rattle.hg_line.proofs.line_outcome.print_refusals.Goals as goal

pub returns-in-Event-clause-printed : goal.returns-in-Event-clause-printed
returns-in-Event-clause-printed g c =
    rw c.in-Event.is (one_line c.args.line c.in-Event.answer _ _ c.print_answer.result
    c.print_answer.ensures.printed)

pub returns-in-Taken-clause-printed : goal.returns-in-Taken-clause-printed
returns-in-Taken-clause-printed g c =
    rw c.in-Taken.is (one_line c.args.line c.in-Taken.answer _ _ c.print_answer-in-Taken.result
    c.print_answer-in-Taken.ensures.printed)

pub returns-in-Event-clause-refused : goal.returns-in-Event-clause-refused
returns-in-Event-clause-refused g c =
    rw c.in-Event.is (on_err_weaker c.print_answer.result (refused_here c.in-Event.answer [])
    c.print_answer.ensures.refused)

pub returns-in-Taken-clause-refused : goal.returns-in-Taken-clause-refused
returns-in-Taken-clause-refused g c =
    rw c.in-Taken.is (on_err_weaker c.print_answer-in-Taken.result (refused_here c.in-Taken.answer [])
    c.print_answer-in-Taken.ensures.refused)
