use Rattle.std.proofs.Common.{[], ◌++◌}
use Rattle.std.proofs.KnownBytes.{Appends-trans, Appends-nil}
use Rattle.std.proofs.lemmas.Result.{err_from_is_err_and}
use Rattle.hg_line.proofs.GrowLemmas.{grows_more, grows_stays, grows_then}
use Rattle.hg_line.proofs.ReportLemmas.{next_lines, no_lines}
use Rattle.hg_line.proofs.report.print_rows.Goals as goal

pub loop-label-init : goal.loop-label-init
loop-label-init g c = record {
  printed = λ rest holds later grew. (rest, later, grew);
  empty = c.requires.empty;
  grew = grows_stays _;
}

pub loop-label-preserved : goal.loop-label-preserved
loop-label-preserved g c =
    let d = c.in_ok-print_row.ensures.printed in
    record {
      printed = λ rest holds later grew. c.loop-label.invariant.printed (d.0 ++ rest) holds
          (next_lines c.args.kept.now c.args.rows.now c.loop-label.label-index _ d.0 rest c.loop-label-test.true d.1
          later) (Appends-trans _ _ _ d.0 rest d.2 grew);
      empty = c.in_ok-print_row.ensures.emptied;
      grew = grows_more _ _ _ d.0 c.loop-label.invariant.grew d.2;
    }

pub returns-clause-printed : goal.returns-clause-printed
returns-clause-printed g c =
    c.loop-label.invariant.printed [] _
    (no_lines c.args.kept.now c.args.rows.now c.loop-label.label-index c.loop-label-test.false) (Appends-nil _)

pub returns-in_err-print_row-clause-grows : goal.returns-in_err-print_row-clause-grows
returns-in_err-print_row-clause-grows g c =
    let p = err_from_is_err_and c.from_residual.result c.from_residual.ensures.1 in
    rw p.1 (grows_then _ _ _ c.loop-label.invariant.grew c.in_err-print_row.ensures.grows)
