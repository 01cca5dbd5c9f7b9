use Rattle.std.proofs.Common.{◌+◌, length, refl, sym, ap, ◌∙◌, arith}
use Rattle.std.proofs.lemmas.Bool.{eqb-true}
use Rattle.std.proofs.lemmas.List.{nil_from_length}
use Rattle.std.proofs.lemmas.Result.{err_from_is_err_and}
use Rattle.std.specs.Str.Lines.{lines}
use Rattle.hg_line.proofs.EndingLemmas.{bare_stops, stays_own}
use Rattle.hg_script.proofs.EndingLemmas.{goes_on-end, goes_on-more, goes_on-start, stops_here}
use Rattle.hg_line.proofs.LineLemmas.{bare_line}
use Rattle.hg_line.specs.Events.{refusals}
use Rattle.hg_script.proofs.script.run_lines.Goals as goal

pub loop-rest-init : goal.loop-rest-init
loop-rest-init g c = record { goes = (0, goes_on-start _ _ _ _); counted = omega arith }

pub loop-rest-preserved : goal.loop-rest-preserved
loop-rest-preserved g c =
    let (t, output, does, prints, grew, is) = c.in_ok-run_line.ensures.done in
    let goes = c.loop-rest.invariant.goes in
    record {
      goes = (
        goes.0 + refusals t,
        goes_on-more _ _ _ _ _ _ _ _ _ _ _ _ _ _ _ _ c.cut_line.ensures.lines
            (bare_line _ _ _ t _ output does prints) grew refl goes.1,
      );
      counted = omega (arith, c.cut_line.ensures.shorter, c.loop-rest.invariant.counted);
    }

pub returns-in_err-run_line-clause-stopped : goal.returns-in_err-run_line-clause-stopped
returns-in_err-run_line-clause-stopped g c =
    let p = err_from_is_err_and c.from_residual.result c.from_residual.ensures.1 in
    rw (p.1, p.2) (c.loop-rest.invariant.goes.1.stopped _ _
    (stops_here _ _ _ _ _ _ _ _ _ c.cut_line.ensures.lines (bare_stops _ _ _ _ c.in_err-run_line.ensures.stopped)
    (stays_own _ _ _ c.in_err-run_line.ensures.unprinted) c.in_err-run_line.ensures.grows))

pub returns-clause-done : goal.returns-clause-done
returns-clause-done g c =
    let d = goes_on-end _ _ _ _ _ _ _ _ _
    (ap lines
    (nil_from_length c.loop-rest.rest.now
    (eqb-true (length c.loop-rest.rest.now) 0 (sym c.is_empty.ensures ∙ c.loop-rest-test.false))))
    c.loop-rest.invariant.goes.1 in
    (d.0, d.1, d.2, d.3)
