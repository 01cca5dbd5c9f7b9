use Rattle.std.proofs.Common.{Err, inr, ap}
use Rattle.std.proofs.lemmas.Result.{err_from_is_err_and}
use Rattle.hg_rewrite.specs.Refusals.{unknown_nodes}
use Rattle.hg_rewrite.proofs.DecideLemmas.{refused_unknown, refused_hidden}
use Rattle.hg_rewrite.proofs.TableLemmas.{unknown_tells}
use Rattle.hg_rewrite.proofs.MemoryLemmas.{told, never, wanting_hidden}
use Rattle.hg_rewrite.proofs.decision.decide.Goals as goal

pub returns-in_err-check_known-clause-answer : goal.returns-in_err-check_known-clause-answer
returns-in_err-check_known-clause-answer c =
    let p = err_from_is_err_and c.from_residual.result c.from_residual.ensures.1 in
    rw (p.1, p.2) (refused_unknown c.args.replica.now c.args.pins.now c.args.op.now c.in_err-check_known.field-0.0
    (inr c.in_err-check_known.ensures.answer))

pub returns-in_err-check_visible-clause-answer : goal.returns-in_err-check_visible-clause-answer
returns-in_err-check_visible-clause-answer c =
    let p = err_from_is_err_and c.from_residual-in_err-check_visible.result
    c.from_residual-in_err-check_visible.ensures.1 in
    rw (p.1, p.2) (refused_hidden c.args.replica.now c.args.pins.now c.args.op.now c.in_ok-check_known.ensures.answer
    c.in_err-check_visible.field-0.0 c.in_err-check_visible.ensures.answer)

pub returns-in_err-check_known-clause-memory : goal.returns-in_err-check_known-clause-memory
returns-in_err-check_known-clause-memory c =
    let s = c.args.replica.now in
    let op = c.args.op.now in
    λ e. never (unknown_nodes s op) c.in_err-check_known.field-0.0
    (unknown_tells s op) c.in_err-check_known.ensures.answer
    (told _ c.in_err-check_known.field-0.0 c.from_residual.ensures.1 e)

pub returns-in_err-check_visible-clause-memory : goal.returns-in_err-check_visible-clause-memory
returns-in_err-check_visible-clause-memory c =
    λ e. wanting_hidden c.args.replica.now c.args.pins.now c.args.op.now c.in_ok-check_known.ensures.answer
    (c.in_err-check_visible.ensures.memory (ap (λ x. Err x)
    (told _ c.in_err-check_visible.field-0.0 c.from_residual-in_err-check_visible.ensures.1 e)))

pub returns-clause-answer : goal.returns-clause-answer
returns-clause-answer c =
    c.decide_shown.ensures.answer c.args.pins.now c.in_ok-check_visible.ensures.answer

pub returns-clause-memory : goal.returns-clause-memory
returns-clause-memory c = λ e.
    inr (c.decide_shown.ensures.later c.args.pins.now c.in_ok-check_visible.ensures.answer e)
