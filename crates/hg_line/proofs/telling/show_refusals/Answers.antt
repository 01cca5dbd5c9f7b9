use Rattle.std.proofs.Common.{List, ℕ, ◌++◌, ◌≤◌, count_by, ap, subst, ◌∙◌}
use Rattle.hg_line.specs.Endings.{IsOfLine}
use Rattle.hg_line.specs.Events.{PeerAnswer, is_refusal}
use Rattle.hg_line.specs.Printing.{answer_lines}
use Rattle.hg_line.specs.Outcomes.{outcome_answers}
use Rattle.hg_line.specs.declared.output.LineName.TheVariants.{Sentence}
use Rattle.hg_line.proofs.EndingLemmas.{untold_ends, untold_not_own}
use Rattle.hg_line.proofs.telling.show_refusals.Goals as goal

pub returns-in-Ok-print_refusals-clause-done : goal.returns-in-Ok-print_refusals-clause-done
returns-in-Ok-print_refusals-clause-done c =
    let (t, output, does, prints, grew, is) = c.in-Ok.ensures.done in
    let shown = c.in-Ok-print_refusals.ensures.printed
    ∙ ap (λ (xs : List ℕ). xs ++ answer_lines (Sentence c.args.number) (outcome_answers c.in-Ok.outcome)) c.requires
    ∙ ap (λ (answers : List PeerAnswer). answer_lines (Sentence c.args.number) answers) is in
    (t, output, does, prints, shown, is)

pub returns-in-Ok-clause-stopped : goal.returns-in-Ok-clause-stopped
returns-in-Ok-clause-stopped c =
    let (t, output, does, prints, grew, is) = c.in-Ok.ensures.done in
    let some = subst (λ (answers : List PeerAnswer). 1 ≤ count_by is_refusal answers) is
    c.in-Err-print_refusals.ensures.refused in
    rw c.at_line.ensures (untold_ends c.args.number _ _ t _ c.in-Err-print_refusals.fault does some
    c.in-Err-print_refusals.ensures.err)

pub returns-in-Ok-clause-unshown : goal.returns-in-Ok-clause-unshown
returns-in-Ok-clause-unshown c = λ own.
    absurd (untold_not_own c.args.number c.in-Err-print_refusals.fault c.in-Err-print_refusals.ensures.err
    (subst IsOfLine c.at_line.ensures own))

pub returns-clause-unshown : goal.returns-clause-unshown
returns-clause-unshown c = λ own. c.requires
