use Rattle.std.proofs.Common.{refl, inl, inr, ap, is_some}
use Rattle.std.proofs.lemmas.Result.{err_from_is_err_and}
use Rattle.hg_world.specs.declared.event.Event.TheVariants.{Mark}
use Rattle.hg_line.specs.declared.command.Command.TheVariants as command
use Rattle.hg_line.specs.Events.{no_trace}
use Rattle.hg_line.proofs.EndingLemmas.{ended_at_event, fault_of_command, mark_nowhere, no_place, unknown_fault}
use Rattle.hg_line.proofs.LineLemmas.{one}
use Rattle.hg_line.proofs.fleet.Fleet.mark.Goals as goal

pub returns-in_err-mark-clause-err : goal.returns-in_err-mark-clause-err
returns-in_err-mark-clause-err c =
    let p = err_from_is_err_and c.from_residual-in_err-mark.result c.from_residual-in_err-mark.ensures.1 in
    rw (p.1, p.2) (
      fault_of_command _ c.args.self.now (command.Mark c.args.at c.args.marking) _ (λ h. inr h)
          (ap is_some c.in_ok-place.ensures.ok) c.in_err-mark.ensures.err,
      (no_trace, refl),
    )

pub returns-in_err-place-clause-err : goal.returns-in_err-place-clause-err
returns-in_err-place-clause-err c =
    let p = err_from_is_err_and c.from_residual.result c.from_residual.ensures.1 in
    let missing = no_place c.args.self.now _ c.in_err-place.ensures.err.1 in
    rw (p.1, p.2) (
      unknown_fault c.args.self.now (command.Mark c.args.at c.args.marking) _ c.in_err-place.ensures.err.0
          (inl missing),
      (no_trace, refl),
    )

pub returns-in_err-check_printed-clause-err : goal.returns-in_err-check_printed-clause-err
returns-in_err-check_printed-clause-err c =
    let p = err_from_is_err_and c.from_residual-in_err-check_printed.result
    c.from_residual-in_err-check_printed.ensures.1 in
    let self = c.args.self.now in
    rw (p.1, p.2) (ended_at_event self (command.Mark c.args.at c.args.marking)
    (Mark c.in_ok-place.place c.in_ok-mark.mark) _ _ _ c.mark-answer.ensures
    (λ there. inl (mark_nowhere self c.args.at c.in_ok-place.place c.in_ok-mark.mark c.in_ok-place.ensures.ok there))
    (ap is_some c.in_ok-place.ensures.ok) c.in_err-check_printed.ensures.fault)

pub returns-clause-ok : goal.returns-clause-ok
returns-clause-ok c =
    let h = c.mark-answer.ensures in (
      one (Mark c.in_ok-place.place c.in_ok-mark.mark) c.mark-answer.result h.0,
      refl,
      record {
        asked = (c.in_ok-place.place, c.in_ok-mark.mark, c.in_ok-place.ensures.ok, c.in_ok-mark.ensures.ok, refl);
        ran = (c.mark-answer.new.self, h.1, refl);
        printed = (c.in_ok-check_printed.ensures.printed, tt);
        named = (refl, refl, refl);
      },
    )
