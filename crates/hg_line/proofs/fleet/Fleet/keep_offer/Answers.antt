use Rattle.std.proofs.Common.{refl, sym, ap, ◌∙◌, ℕ, Option, is_some, inl, inr}
use Rattle.std.proofs.lemmas.Result.{err_from_is_err_and}
use Rattle.hg_world.specs.declared.event.Event.TheVariants.{Offer}
use Rattle.hg_line.specs.declared.command.Command.TheVariants as command
use Rattle.hg_fleet.specs.Pulls.{asking}
use Rattle.hg_line.specs.Events.{no_trace}
use Rattle.hg_line.proofs.EndingLemmas.{ended_at_event, fault_of_command, no_place, offer_nowhere, unknown_fault}
use Rattle.hg_line.proofs.NameLemmas.{unbound}
use Rattle.hg_line.proofs.LineLemmas.{one, ran_after}
use Rattle.hg_line.proofs.fleet.Fleet.keep_offer.Goals as goal

pub returns-in_err-common-clause-err : goal.returns-in_err-common-clause-err
returns-in_err-common-clause-err c =
    let p = err_from_is_err_and c.from_residual-in_err-common.result c.from_residual-in_err-common.ensures.1 in
    rw (p.1, p.2) (
      fault_of_command _ c.args.self.now (command.Offer c.args.scope c.args.at c.args.message c.args.labels) _
          (λ h. inr h) (ap is_some c.in_ok-place.ensures.ok) c.in_err-common.ensures.err,
      (no_trace, refl),
    )

pub returns-in_err-place-clause-err : goal.returns-in_err-place-clause-err
returns-in_err-place-clause-err c =
    let p = err_from_is_err_and c.from_residual.result c.from_residual.ensures.1 in
    let missing = no_place c.args.self.now _ c.in_err-place.ensures.err.1 in
    rw (p.1, p.2) (
      unknown_fault c.args.self.now (command.Offer c.args.scope c.args.at c.args.message c.args.labels) _
          c.in_err-place.ensures.err.0 (inl missing),
      (no_trace, refl),
    )

pub returns-then-is_some-clause-err : goal.returns-then-is_some-clause-err
returns-then-is_some-clause-err c =
    let placed = ap (λ (o : Option ℕ). is_some o) c.in_ok-place.ensures.ok in
    let bound = ap (λ (o : Option ℕ). is_some o) (sym c.bound.ensures) ∙ sym c.is_some.ensures ∙ c.if-is_some.true in
    ((placed, (c.in_ok-common.common.items, c.in_ok-common.ensures.ok), bound), (no_trace, refl))

pub returns-in_err-answer-clause-err : goal.returns-in_err-answer-clause-err
returns-in_err-answer-clause-err c =
    let p = err_from_is_err_and c.from_residual-in_err-answer.result c.from_residual-in_err-answer.ensures.1 in
    rw (p.1, p.2) (ap is_some c.in_ok-place.ensures.ok, (no_trace, c.in_err-answer.ensures.unchanged))

pub returns-in_err-check_printed-clause-err : goal.returns-in_err-check_printed-clause-err
returns-in_err-check_printed-clause-err c =
    let p = err_from_is_err_and c.from_residual-in_err-check_printed.result
    c.from_residual-in_err-check_printed.ensures.1 in
    let self = c.args.self.now in
    let ask = asking c.args.scope c.in_ok-common.common in
    rw (p.1, p.2) (ended_at_event self (command.Offer c.args.scope c.args.at c.args.message c.args.labels)
    (Offer c.in_ok-place.place ask) _ _ _ c.in_ok-answer.ensures.happens
    (λ there. inl (offer_nowhere self c.args.at c.in_ok-place.place ask c.in_ok-place.ensures.ok there))
    (ap is_some c.in_ok-place.ensures.ok) c.in_err-check_printed.ensures.fault)

pub returns-in_err-name_message-clause-err : goal.returns-in_err-name_message-clause-err
returns-in_err-name_message-clause-err c =
    let p = err_from_is_err_and c.from_residual-in_err-name_message.result
    c.from_residual-in_err-name_message.ensures.1 in
    rw (p.1, p.2, c.in_err-name_message.ensures.err) (
      ap is_some c.in_ok-place.ensures.ok,
      ran_after _ _ _ (Offer c.in_ok-place.place (asking c.args.scope c.in_ok-common.common)) _
          c.in_ok-answer.ensures.happens refl,
    )

pub returns-clause-ok : goal.returns-clause-ok
returns-clause-ok c =
    let h = c.in_ok-answer.ensures.happens in (
      one (Offer c.in_ok-place.place (asking c.args.scope c.in_ok-common.common)) c.in_ok-answer.answer h.0,
      refl,
      record {
        asked = (c.in_ok-place.place, c.in_ok-common.common, c.in_ok-place.ensures.ok, c.in_ok-common.ensures.ok, refl);
        ran = (c.offer.new.self, h.1, refl);
        printed = (c.in_ok-check_printed.ensures.printed, tt);
        named = (
          refl,
          refl,
          sym c.bound.ensures ∙ unbound c.bound.result (sym c.is_some.ensures ∙ c.if-is_some.false),
          c.in_ok-name_message.ensures.ok,
        );
      },
    )
