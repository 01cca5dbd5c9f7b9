use Rattle.std.proofs.Common.{◌≤◌, length, sym, ap, ◌∙◌, arith}
use Rattle.std.proofs.lemmas.Bool.{eqb-true}
use Rattle.std.proofs.lemmas.List.{nil_from_length}
use Rattle.std.proofs.lemmas.Result.{err_from_is_err_and}
use Rattle.std.specs.Str.Lines.{lines}
use Rattle.hg_line.specs.Events.{refusals}
use Rattle.hg_line.proofs.EndingLemmas.{refused_says}
use Rattle.hg_script.proofs.EndingLemmas.{goes_on-end, goes_on-more, goes_on-start, stops_here}
use Rattle.hg_line.proofs.EndingLemmas.{write_ends}
use Rattle.hg_script.proofs.telling.tell_lines.Goals as goal

pub loop-rest-init : goal.loop-rest-init
loop-rest-init g c = record { goes = goes_on-start _ _ _ _; counted = omega arith; few = omega arith }

pub loop-rest-preserved : goal.loop-rest-preserved
loop-rest-preserved g c =
    let (t, output, wrote, grew, refused) = c.in_ok-count.ensures.done in
    record {
      goes = goes_on-more _ _ _ _ _ _ _ _ _ _ t _ output _ _ _ c.cut_line.ensures.lines wrote grew refused
          c.loop-rest.invariant.goes;
      counted = omega (arith, c.cut_line.ensures.shorter, c.loop-rest.invariant.counted);
      few = omega (arith, c.in_ok-count.ensures.few, c.loop-rest.invariant.few);
    }

pub returns-in_err-count-clause-stopped : goal.returns-in_err-count-clause-stopped
returns-in_err-count-clause-stopped g c =
    let p = err_from_is_err_and c.from_residual.result c.from_residual.ensures.1 in
    rw (p.1, p.2) (c.loop-rest.invariant.goes.stopped _ _
    (stops_here _ _ _ _ _ _ _ _ _ c.cut_line.ensures.lines c.in_err-count.ensures.stopped
    c.in_err-count.ensures.unwritten c.in_err-count.ensures.grows))

pub returns-in_err-note_lost-clause-stopped : goal.returns-in_err-note_lost-clause-stopped
returns-in_err-note_lost-clause-stopped g c =
    let p = err_from_is_err_and c.from_residual-in_err-note_lost.result c.from_residual-in_err-note_lost.ensures.1 in
    let (t, output, wrote, grew, refused) = c.in_ok-count.ensures.done in
    let some : 1 ≤ refusals t = omega (arith, refused, c.in_err-note_lost.ensures) in
    rw (p.1, p.2) (c.loop-rest.invariant.goes.stopped _ _
    (stops_here _ _ _ _ _ _ _ _ _ c.cut_line.ensures.lines
    (write_ends 0 c.loop-rest.fleet c.cut_line.result.0.now
    (refused_says c.loop-rest.fleet c.cut_line.result.0.now t _ wrote.0 some)) (λ own. absurd own) (output, grew)))

pub returns-clause-done : goal.returns-clause-done
returns-clause-done g c =
    goes_on-end _ _ _ _ _ _ _ _ _
    (ap lines
    (nil_from_length c.loop-rest.rest.now
    (eqb-true (length c.loop-rest.rest.now) 0 (sym c.is_empty.ensures ∙ c.loop-rest-test.false))))
    c.loop-rest.invariant.goes
