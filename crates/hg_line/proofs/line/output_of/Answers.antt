use Rattle.std.proofs.Common.{List, ℕ, ◌++◌, ap, sym, subst, ◌∙◌}
use Rattle.hg_line.specs.Commands.{Text}
use Rattle.hg_line.specs.Printing.{PrintsLine}
use Rattle.hg_line.proofs.EndingLemmas.{text_ends}
use Rattle.hg_line.proofs.line.output_of.Goals as goal

pub returns-in-Ok-clause-done : goal.returns-in-Ok-clause-done
returns-in-Ok-clause-done c =
    let (t, output, does, prints, grew, is) = c.in-Ok.ensures.done in
    let same = grew ∙ ap (λ (xs : List ℕ). xs ++ output) c.new-output.ensures.items in
    (t, does, subst (λ (u : Text). PrintsLine c.args.number c.args.fleet.now c.args.line.now t u) (sym same) prints)

pub returns-in-Err-clause-stopped : goal.returns-in-Err-clause-stopped
returns-in-Err-clause-stopped c =
    rw c.in_text.ensures (text_ends c.args.number _ _ c.in-Err.fault c.in-Err.ensures.stopped)
