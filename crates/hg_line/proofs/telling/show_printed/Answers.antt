use Rattle.std.proofs.Common.{List, ℕ, ◌++◌, ap, sym, subst, ◌∙◌}
use Rattle.std.proofs.lemmas.Option.{same_Some}
use Rattle.hg_line.specs.Commands.{Text}
use Rattle.hg_line.specs.Printing.{PrintsLine}
use Rattle.hg_line.proofs.EndingLemmas.{stays_own}
use Rattle.hg_line.proofs.telling.show_printed.Goals as goal

pub returns-in-Ok-clause-done : goal.returns-in-Ok-clause-done
returns-in-Ok-clause-done c =
    let (t, output, does, prints, grew, is) = c.in-Ok.ensures.done in
    let same = grew ∙ ap (λ (xs : List ℕ). xs ++ output) c.requires in
    let shows = subst (λ (u : Text). PrintsLine c.args.number c.args.fleet.now c.args.line.now t u) (sym same) prints in
    (t, output, does, prints, shows, is)

pub returns-clause-unshown : goal.returns-clause-unshown
returns-clause-unshown c = λ own.
    same_Some _ _ (stays_own c.in-Err.fault _ _ c.in-Err.ensures.unprinted own) ∙ c.requires
