use Rattle.std.proofs.Common.{Bool, IfOk, subst, sym}
use Rattle.hg_line.specs.declared.line_outcome.LineOutcome.{LineOutcome}
use Rattle.hg_line.specs.Outcomes.{IsLineShown}
use Rattle.hg_line.proofs.telling.show_line.Goals as goal

pub returns-then-notes-clause-done : goal.returns-then-notes-clause-done
returns-then-notes-clause-done c =
    subst (λ (alone : Bool). IfOk c.show_refusals.result (λ (outcome : LineOutcome). IsLineShown alone c.args.number
    c.args.fleet.now c.args.line.now outcome c.show_refusals.new.fleet c.show_refusals.new.text.items))
    (sym c.if-notes.true)
    c.show_refusals.ensures.done

pub returns-else-notes-clause-done : goal.returns-else-notes-clause-done
returns-else-notes-clause-done c =
    subst (λ (alone : Bool). IfOk c.show_printed.result (λ (outcome : LineOutcome). IsLineShown alone c.args.number
    c.args.fleet.now c.args.line.now outcome c.show_printed.new.fleet c.show_printed.new.text.items))
    (sym c.if-notes.false)
    c.show_printed.ensures.done
