use Rattle.std.proofs.Common.{◌++◌, ap, length}
use Rattle.std.proofs.KnownBytes.{Appends-trans}
use Rattle.std.proofs.lemmas.Result.{err_from_is_err_and}
use Rattle.hg_phases.specs.State.{changesets}
use Rattle.hg_replica.specs.State.{ReplicaState}
use Rattle.hg_line.specs.Reports.{heading, totals}
use Rattle.hg_line.proofs.GrowLemmas.{grows_after}
use Rattle.hg_line.proofs.report.print_report.Goals as goal

pub returns-clause-printed : goal.returns-clause-printed
returns-clause-printed g c =
    let s = c.replica.result.now in
    let d = c.in_ok-print_changesets.ensures.printed in
    let first = heading c.args.name.now in
    let last = totals (length (changesets s.history)) (length s.markers) in (
      first ++ d.1 ++ last,
      (
        d.0,
        d.1,
        d.2,
        d.3,
        ap (λ (t : ReplicaState). first ++ d.1 ++ totals (length (changesets t.history)) (length t.markers))
            c.replica.ensures.replica,
      ),
      Appends-trans _ _ _ (first ++ d.1) last
          (Appends-trans _ _ _ first d.1 c.in_ok-print_heading.ensures.printed d.4)
          c.in_ok-print_totals.ensures.printed,
    )

pub returns-in_err-print_changesets-clause-grows : goal.returns-in_err-print_changesets-clause-grows
returns-in_err-print_changesets-clause-grows g c =
    let p = err_from_is_err_and c.from_residual-in_err-print_changesets.result
    c.from_residual-in_err-print_changesets.ensures.1 in
    rw p.1 (grows_after _ _ _ (heading c.args.name.now) c.in_ok-print_heading.ensures.printed
    c.in_err-print_changesets.ensures.grows)

pub returns-in_err-print_totals-clause-grows : goal.returns-in_err-print_totals-clause-grows
returns-in_err-print_totals-clause-grows g c =
    let p = err_from_is_err_and c.from_residual-in_err-print_totals.result
    c.from_residual-in_err-print_totals.ensures.1 in
    let d = c.in_ok-print_changesets.ensures.printed in
    rw p.1 (grows_after _ _ _ (heading c.args.name.now) c.in_ok-print_heading.ensures.printed
    (grows_after _ _ _ d.1 d.4 c.in_err-print_totals.ensures.grows))
