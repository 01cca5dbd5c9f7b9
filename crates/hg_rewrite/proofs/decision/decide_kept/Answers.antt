use Rattle.std.proofs.Common.{inr, subst}
use Rattle.std.proofs.lemmas.Result.{err_from_is_err_and}
use Rattle.hg_replica.specs.State.{ReplicaState}
use Rattle.hg_rewrite.specs.Refusals.{NoneApplies, IsFirstRefusal, unknown_nodes, hidden_parents}
use Rattle.hg_rewrite.specs.Answer.{DecideAnswer}
use Rattle.hg_rewrite.specs.Memory.{MayWantMemoryLater}
use Rattle.hg_rewrite.proofs.DecideLemmas.{refused_unknown, refused_hidden}
use Rattle.hg_rewrite.proofs.TableLemmas.{unknown_tells}
use Rattle.hg_rewrite.proofs.MemoryLemmas.{told, never}
use Rattle.hg_rewrite.proofs.decision.decide_kept.Goals as goal

pub returns-in_err-check_known-clause-answer : goal.returns-in_err-check_known-clause-answer
returns-in_err-check_known-clause-answer c =
    let op = c.args.op.now in
    let r = c.in_err-check_known.field-0.0 in
    let p = err_from_is_err_and c.from_residual.result c.from_residual.ensures.1 in
    rw (p.1, p.2) (refused_unknown c.args.kept.now.replica c.args.kept.now.pins op r
    (inr (subst (λ (s : ReplicaState). IsFirstRefusal (unknown_nodes s op) r) c.replica-replica.ensures.replica
    c.in_err-check_known.ensures.answer)))

pub returns-in_err-check_known-clause-memory : goal.returns-in_err-check_known-clause-memory
returns-in_err-check_known-clause-memory c =
    let s = c.replica-replica.result.now in
    let op = c.args.op.now in
    λ e. never (unknown_nodes s op) c.in_err-check_known.field-0.0
    (unknown_tells s op) c.in_err-check_known.ensures.answer
    (told _ c.in_err-check_known.field-0.0 c.from_residual.ensures.1 e)

pub returns-in_err-check_known-clause-later : goal.returns-in_err-check_known-clause-later
returns-in_err-check_known-clause-later c =
    let s = c.replica-replica.result.now in
    let op = c.args.op.now in
    λ e. never (unknown_nodes s op) c.in_err-check_known.field-0.0
    (unknown_tells s op) c.in_err-check_known.ensures.answer
    (told _ c.in_err-check_known.field-0.0 c.from_residual.ensures.1 e)

pub returns-in_err-check_shown-clause-answer : goal.returns-in_err-check_shown-clause-answer
returns-in_err-check_shown-clause-answer c =
    let op = c.args.op.now in
    let p = err_from_is_err_and c.from_residual-in_err-check_shown.result
    c.from_residual-in_err-check_shown.ensures.1 in
    rw (p.1, p.2) (refused_hidden c.args.kept.now.replica c.args.kept.now.pins op
    (subst (λ (s : ReplicaState). NoneApplies (unknown_nodes s op)) c.replica-replica.ensures.replica
    c.in_ok-check_known.ensures.answer) c.in_err-check_shown.field-0.0 (inr c.in_err-check_shown.ensures))

pub returns-clause-answer : goal.returns-clause-answer
returns-clause-answer c =
    let pins = c.args.kept.now.pins in
    let op = c.args.op.now in
    subst (λ (s : ReplicaState). NoneApplies (hidden_parents s pins op) → DecideAnswer s pins op c.decide_shown.result)
    c.replica-replica.ensures.replica (c.decide_shown.ensures.answer pins) c.in_ok-check_shown.ensures

pub returns-clause-later : goal.returns-clause-later
returns-clause-later c =
    let pins = c.args.kept.now.pins in
    let op = c.args.op.now in
    λ e. subst (λ (s : ReplicaState). NoneApplies (hidden_parents s pins op) → MayWantMemoryLater s pins op)
    c.replica-replica.ensures.replica (λ shown. c.decide_shown.ensures.later pins shown e) c.in_ok-check_shown.ensures

pub returns-clause-memory : goal.returns-clause-memory
returns-clause-memory c = λ e. inr (returns-clause-later c e)
