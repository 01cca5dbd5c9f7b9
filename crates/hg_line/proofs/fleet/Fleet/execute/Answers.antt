use Rattle.std.proofs.Common.{ℕ, ◌≤◌, List, count_by, subst}
use Rattle.hg_line.specs.Events.{PeerAnswer, is_refusal}
use Rattle.hg_line.proofs.EndingLemmas.{left_by, print_fault, refused_prints, stays_printed, stays_told}
use Rattle.hg_line.proofs.GrowLemmas.{grows_after}
use Rattle.hg_line.proofs.LineLemmas.{done}
use Rattle.hg_line.proofs.fleet.Fleet.execute.Goals as goal

pub returns-in-Ok-print_refusals-clause-ok : goal.returns-in-Ok-print_refusals-clause-ok
returns-in-Ok-print_refusals-clause-ok g c =
    done c.args.number c.args.self.now c.args.command c.in-Ok.outcome c.answer.new.self _ _ _ c.in-Ok.ensures.ok
    c.in-Ok-print_refusals.ensures.printed

pub returns-in-Err-print_refusals-clause-err : goal.returns-in-Err-print_refusals-clause-err
returns-in-Err-print_refusals-clause-err g c =
    let (t, text, is, does, shows, grew) = c.in-Ok.ensures.ok in
    let some = subst (λ (answers : List PeerAnswer). 1 ≤ count_by is_refusal answers) is
    c.in-Err-print_refusals.ensures.refused in
    let prints = refused_prints c.args.self.now c.args.command t c.answer.new.self does some in
    rw c.at_line.ensures (left_by c.args.number c.args.self.now c.args.command c.in-Err-print_refusals.fault
    c.answer.new.self
    (print_fault c.args.self.now c.args.command _ prints c.in-Err-print_refusals.ensures.err, (t, does.ran)))

pub returns-in-Err-clause-err : goal.returns-in-Err-clause-err
returns-in-Err-clause-err g c =
    rw c.at_line-in-Err.ensures
    (left_by c.args.number c.args.self.now c.args.command c.in-Err.fault c.answer.new.self c.in-Err.ensures.err)

pub returns-in-Err-print_refusals-clause-unprinted : goal.returns-in-Err-print_refusals-clause-unprinted
returns-in-Err-print_refusals-clause-unprinted g c =
    rw c.at_line.ensures
    (stays_told {T = ℕ} _ _ _ _ (stays_printed c.in-Err-print_refusals.fault _ _ c.in-Err-print_refusals.ensures.err))

pub returns-in-Err-clause-unprinted : goal.returns-in-Err-clause-unprinted
returns-in-Err-clause-unprinted g c =
    rw c.at_line-in-Err.ensures (stays_told _ c.in-Err.fault _ _ c.in-Err.ensures.unprinted)

pub returns-in-Err-print_refusals-clause-grows : goal.returns-in-Err-print_refusals-clause-grows
returns-in-Err-print_refusals-clause-grows g c =
    let (t, text, is, does, shows, grew) = c.in-Ok.ensures.ok in
    grows_after _ _ _ text grew c.in-Err-print_refusals.ensures.grows
