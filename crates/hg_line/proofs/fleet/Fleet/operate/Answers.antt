use Rattle.std.proofs.Common.{List, [], ◌∷◌, map, Some, refl, subst, inl, inr, IsTrue, ap, is_some}
use Rattle.std.proofs.lemmas.Result.{err_from_is_err_and}
use Rattle.hg_world.specs.declared.event.Event.TheVariants.{Local}
use Rattle.hg_line.specs.declared.command.Command.TheVariants as command
use Rattle.hg_line.specs.Events.{no_trace, brought}
use Rattle.hg_line.specs.Commands.{Text, Word}
use Rattle.hg_line.specs.Lines.{AreLabelled, ids, may_be_bound}
use Rattle.hg_line.proofs.EndingLemmas.{ended_at_event, fault_of_command, free_brought, local_nowhere}
use Rattle.hg_line.proofs.EndingLemmas.{no_place, node_fault, node_from_place, taken_fault, unknown_fault}
use Rattle.hg_line.proofs.LineLemmas.{one, ran_after}
use Rattle.hg_line.proofs.fleet.Fleet.operate.Goals as goal

pub returns-in_err-op-clause-err : goal.returns-in_err-op-clause-err
returns-in_err-op-clause-err c =
    let p = err_from_is_err_and c.from_residual-in_err-op.result c.from_residual-in_err-op.ensures.1 in
    rw (p.1, p.2) (
      fault_of_command _ c.args.self.now (command.Operation c.args.at c.args.operation) _ (λ h. inr h)
          (ap is_some c.in_ok-place.ensures.ok) c.in_err-op.ensures.err,
      (no_trace, refl),
    )

pub returns-in_err-place-clause-err : goal.returns-in_err-place-clause-err
returns-in_err-place-clause-err c =
    let p = err_from_is_err_and c.from_residual.result c.from_residual.ensures.1 in
    let missing = no_place c.args.self.now _ c.in_err-place.ensures.err.1 in
    rw (p.1, p.2) (
      unknown_fault c.args.self.now (command.Operation c.args.at c.args.operation) _ c.in_err-place.ensures.err.0
          (inl missing),
      (no_trace, refl),
    )

pub returns-in_err-kept-clause-err : goal.returns-in_err-kept-clause-err
returns-in_err-kept-clause-err c =
    let p = err_from_is_err_and c.from_residual-in_err-kept.result c.from_residual-in_err-kept.ensures.1 in
    rw (p.1, p.2) (
      node_fault c.args.self.now (command.Operation c.args.at c.args.operation) c.args.at.now _ _
          c.in_ok-place.ensures.ok (λ none. inl none) c.in_err-kept.ensures.err,
      (no_trace, refl),
    )

pub returns-in_err-check_labels-clause-err : goal.returns-in_err-check_labels-clause-err
returns-in_err-check_labels-clause-err c =
    let p = err_from_is_err_and c.from_residual-in_err-check_labels.result
    c.from_residual-in_err-check_labels.ensures.1 in
    let self = c.args.self.now in
    let labels = c.new_labels-labels.ensures in
    let held = node_from_place self c.args.at.now c.in_ok-place.place (Some c.in_ok-kept.kept.now)
    c.in_ok-place.ensures.ok c.in_ok-kept.ensures.ok in
    rw (p.1, p.2) (
      taken_fault self c.args.at c.args.operation _ _ _ _ labels c.in_ok-op.ensures.ok held
          c.in_err-check_labels.ensures.err,
      (no_trace, refl),
    )

pub returns-in_err-check_printed-clause-err : goal.returns-in_err-check_printed-clause-err
returns-in_err-check_printed-clause-err c =
    let p = err_from_is_err_and c.from_residual-in_err-check_printed.result
    c.from_residual-in_err-check_printed.ensures.1 in
    let self = c.args.self.now in
    rw (p.1, p.2) (ended_at_event self (command.Operation c.args.at c.args.operation)
    (Local c.in_ok-place.place c.in_ok-op.op) _ _ _ c.local-answer.ensures
    (λ there. inl (local_nowhere self c.args.at c.in_ok-place.place c.in_ok-op.op c.in_ok-place.ensures.ok there))
    (ap is_some c.in_ok-place.ensures.ok) c.in_err-check_printed.ensures.fault)

pub returns-in_err-label-clause-err : goal.returns-in_err-label-clause-err
returns-in_err-label-clause-err c =
    let p = err_from_is_err_and c.from_residual-in_err-label.result c.from_residual-in_err-label.ensures.1 in
    rw (p.1, p.2, c.in_err-label.ensures.err) (
      ap is_some c.in_ok-place.ensures.ok,
      ran_after _ _ _ (Local c.in_ok-place.place c.in_ok-op.op) _ c.local-answer.ensures refl,
    )

pub returns-clause-ok : goal.returns-clause-ok
returns-clause-ok c =
    let self = c.args.self.now in
    let place = c.in_ok-place.place in
    let op = c.in_ok-op.op in
    let answer = c.local-answer.result in
    let h = c.local-answer.ensures in
    let labels = c.new_labels-labels.ensures in
    let free = free_brought (ids self) (map (λ (w : Word). w.now) c.new_labels-labels.result.now) c.in_ok-kept.kept.now
    self.world place op answer h.0 c.local-answer.new.self c.in_ok-kept.ensures.ok
    c.in_ok-check_labels.ensures.free h.1 in (
      one (Local place op) answer h.0,
      refl,
      record {
        asked = (place, op, c.in_ok-place.ensures.ok, c.in_ok-op.ensures.ok, refl);
        ran = (c.local-answer.new.self, h.1, refl);
        printed = (c.in_ok-check_printed.ensures.printed, tt);
        named = (
          refl,
          subst (λ (ls : List Text). IsTrue (may_be_bound (ids self) ls (brought (h.0 ∷ [])))) labels free,
          subst (λ (ls : List Text). AreLabelled self.labels ls (answer ∷ []) c.label.new.names) labels
              c.in_ok-label.ensures.ok,
          refl,
        );
      },
    )
