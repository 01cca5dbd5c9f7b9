use Rattle.std.proofs.Common.{Some, IsTrue, ◌↔◌, ap, is_some, subst}
use Rattle.hg_replica.specs.State.{ReplicaState, IsSameState}
use Rattle.std.proofs.lemmas.Result.{err_from_is_err_and}
use Rattle.hg_line.specs.declared.command.Command.TheVariants.{Agree}
use Rattle.hg_line.proofs.EndingLemmas.{node_from_place, print_fault, stays_printed}
use Rattle.hg_line.proofs.LineLemmas.{agreed}
use Rattle.hg_line.proofs.fleet.Fleet.agree.Goals as goal

pub returns-clause-ok : goal.returns-clause-ok
returns-clause-ok g c =
    let self = c.args.self.now in
    let one = node_from_place self c.args.one.now _ (Some c.in_ok-first.first.now) c.in_ok-place.ensures.ok
    c.in_ok-first.ensures.ok in
    let other = node_from_place self c.args.other.now _ (Some c.in_ok-second.second.now) c.in_ok-place-2.ensures.ok
    c.in_ok-second.ensures.ok in
    let answer = c.is_same_state-answer.result in
    let same = subst (λ (t : ReplicaState). IsTrue answer ↔ IsSameState c.in_ok-first.first.now.replica t)
    c.replica-2.ensures.replica
    (subst (λ (t : ReplicaState). IsTrue answer ↔ IsSameState t c.replica-2.result.now) c.replica.ensures.replica
    c.is_same_state-answer.ensures) in
    agreed self c.args.one c.args.other c.in_ok-first.first.now c.in_ok-second.second.now answer _ _ one
    other same c.in_ok-print_agreement.ensures.printed

pub returns-in_err-print_agreement-clause-unprinted : goal.returns-in_err-print_agreement-clause-unprinted
returns-in_err-print_agreement-clause-unprinted g c =
    let p = err_from_is_err_and c.from_residual-in_err-print_agreement.result
    c.from_residual-in_err-print_agreement.ensures.1 in
    rw (p.1, p.2) (stays_printed _ _ _ c.in_err-print_agreement.ensures.err)

pub returns-in_err-print_agreement-clause-err : goal.returns-in_err-print_agreement-clause-err
returns-in_err-print_agreement-clause-err g c =
    let p = err_from_is_err_and c.from_residual-in_err-print_agreement.result
    c.from_residual-in_err-print_agreement.ensures.1 in
    let self = c.args.self.now in
    let one = node_from_place self c.args.one.now _ (Some c.in_ok-first.first.now) c.in_ok-place.ensures.ok
    c.in_ok-first.ensures.ok in
    let other = node_from_place self c.args.other.now _ (Some c.in_ok-second.second.now) c.in_ok-place-2.ensures.ok
    c.in_ok-second.ensures.ok in
    rw (p.1, p.2) (print_fault self (Agree c.args.one c.args.other) _ (ap is_some one, ap is_some other)
    c.in_err-print_agreement.ensures.err)
