use Rattle.std.proofs.Common.{refl, sym, ◌∙◌, inl, inr, ap, is_some}
use Rattle.std.proofs.lemmas.Result.{err_from_is_err_and}
use Rattle.hg_world.specs.declared.event.Event.TheVariants.{Take}
use Rattle.hg_line.specs.declared.command.Command.TheVariants as command
use Rattle.hg_line.specs.Events.{no_trace}
use Rattle.hg_line.proofs.EndingLemmas.{ended_at_event, no_message, no_place, take_nowhere, unknown_fault}
use Rattle.hg_line.proofs.LineLemmas.{one}
use Rattle.hg_line.proofs.fleet.Fleet.take.Goals as goal

pub returns-in_err-at-clause-err : goal.returns-in_err-at-clause-err
returns-in_err-at-clause-err c =
    let p = err_from_is_err_and c.from_residual.result c.from_residual.ensures.1 in
    let missing = no_place c.args.self.now _ c.in_err-at.ensures.err.1 in
    rw (p.1, p.2) (
      unknown_fault c.args.self.now (command.Take c.args.at c.args.message) _ c.in_err-at.ensures.err.0
          (inl missing),
      (no_trace, refl),
    )

pub returns-in-None-clause-err : goal.returns-in-None-clause-err
returns-in-None-clause-err c =
    (inr (no_message c.args.self.now _ (sym c.bound.ensures ∙ c.in-None.is)), (no_trace, refl))

pub returns-in_err-check_printed-clause-err : goal.returns-in_err-check_printed-clause-err
returns-in_err-check_printed-clause-err c =
    let p = err_from_is_err_and c.from_residual-in_err-check_printed.result
    c.from_residual-in_err-check_printed.ensures.1 in
    let self = c.args.self.now in
    let leads = take_nowhere self c.args.at c.args.message c.in_ok-at.at c.in-Some.message c.in_ok-at.ensures.ok
    (sym c.bound.ensures ∙ c.in-Some.is) in
    rw (p.1, p.2) (ended_at_event self (command.Take c.args.at c.args.message)
    (Take c.in_ok-at.at c.in-Some.message) _ _ _ c.take-answer.ensures leads
    (ap is_some c.in_ok-at.ensures.ok) c.in_err-check_printed.ensures.fault)

pub returns-clause-ok : goal.returns-clause-ok
returns-clause-ok c =
    let h = c.take-answer.ensures in (
      one _ _ h.0,
      refl,
      record {
        asked = (c.in_ok-at.at, c.in-Some.message, c.in_ok-at.ensures.ok, sym c.bound.ensures ∙ c.in-Some.is, refl);
        ran = (c.take-answer.new.self, h.1, refl);
        printed = (c.in_ok-check_printed.ensures.printed, tt);
        named = (refl, refl, refl);
      },
    )
