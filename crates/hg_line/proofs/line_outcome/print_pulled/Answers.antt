use Rattle.std.proofs.Common.{[], ◌∷◌}
use Rattle.std.proofs.lemmas.Result.{err_from_is_err_and, on_err_weaker}
use Rattle.hg_fleet.specs.Pulls.{if_taken}
use Rattle.hg_line.proofs.EndingLemmas.{refused_here, refused_later}
use Rattle.hg_line.proofs.GrowLemmas.{grows_after_err}
use Rattle.hg_line.proofs.LineLemmas.{next_line}
use Rattle.hg_line.proofs.line_outcome.print_pulled.Goals as goal

pub returns-in-Some-clause-printed : goal.returns-in-Some-clause-printed
returns-in-Some-clause-printed g c =
    rw c.in-Some.is (next_line c.args.line c.args.pulled.now.offered c.in-Some.answer _ _ _
    c.print_answer-in-Some.result c.in_ok-print_answer.ensures.printed c.print_answer-in-Some.ensures.printed)

pub returns-in_err-print_answer-clause-refused : goal.returns-in_err-print_answer-clause-refused
returns-in_err-print_answer-clause-refused g c =
    let p = err_from_is_err_and c.from_residual.result c.from_residual.ensures.1 in
    let pulled = c.args.pulled.now in
    rw p.1 (refused_here pulled.offered (if_taken pulled.taken) c.in_err-print_answer.ensures.refused)

pub returns-in-Some-clause-refused : goal.returns-in-Some-clause-refused
returns-in-Some-clause-refused g c =
    rw c.in-Some.is (on_err_weaker c.print_answer-in-Some.result
    (λ refused. refused_later c.args.pulled.now.offered (c.in-Some.answer ∷ []) (refused_here c.in-Some.answer []
    refused))
    c.print_answer-in-Some.ensures.refused)

pub returns-in-Some-clause-grows : goal.returns-in-Some-clause-grows
returns-in-Some-clause-grows g c =
    grows_after_err _ _ _ _ c.print_answer-in-Some.result c.in_ok-print_answer.ensures.printed
    c.print_answer-in-Some.ensures.grows
