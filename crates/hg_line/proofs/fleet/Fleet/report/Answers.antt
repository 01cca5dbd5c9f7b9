use Rattle.std.proofs.Common.{Some, ap, is_some}
use Rattle.std.proofs.lemmas.Result.{err_from_is_err_and}
use Rattle.hg_line.specs.declared.command.Command.TheVariants.{Report}
use Rattle.hg_line.proofs.EndingLemmas.{node_from_place, print_fault, stays_printed}
use Rattle.hg_line.proofs.LineLemmas.{reported}
use Rattle.hg_line.proofs.fleet.Fleet.report.Goals as goal

pub returns-clause-ok : goal.returns-clause-ok
returns-clause-ok g c =
    let self = c.args.self.now in
    let held = node_from_place self c.args.at.now _ (Some c.in_ok-kept.kept.now) c.in_ok-place.ensures.ok
    c.in_ok-kept.ensures.ok in
    reported self c.args.at c.in_ok-kept.kept.now _ _ held c.in_ok-print_report.ensures.printed

pub returns-in_err-print_report-clause-unprinted : goal.returns-in_err-print_report-clause-unprinted
returns-in_err-print_report-clause-unprinted g c =
    let p = err_from_is_err_and c.from_residual-in_err-print_report.result
    c.from_residual-in_err-print_report.ensures.1 in
    rw (p.1, p.2) (stays_printed _ _ _ c.in_err-print_report.ensures.err)

pub returns-in_err-print_report-clause-err : goal.returns-in_err-print_report-clause-err
returns-in_err-print_report-clause-err g c =
    let p = err_from_is_err_and c.from_residual-in_err-print_report.result
    c.from_residual-in_err-print_report.ensures.1 in
    let self = c.args.self.now in
    let held = node_from_place self c.args.at.now _ (Some c.in_ok-kept.kept.now) c.in_ok-place.ensures.ok
    c.in_ok-kept.ensures.ok in
    rw (p.1, p.2) (print_fault self (Report c.args.at) _ (ap is_some held) c.in_err-print_report.ensures.err)
