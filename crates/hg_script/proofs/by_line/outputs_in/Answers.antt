use Rattle.std.proofs.Common.{[], length, sym, ap, ◌∙◌, arith, inr, refl, None}
use Rattle.std.proofs.lemmas.Bool.{eqb-true}
use Rattle.std.proofs.lemmas.List.{nil_from_length}
use Rattle.std.proofs.lemmas.Result.{err_from_is_err_and}
use Rattle.std.specs.Str.Lines.{lines}
use Rattle.hg_script.proofs.ByLineLemmas.{prints_on-end, prints_on-more, prints_on-start, texts-push}
use Rattle.hg_line.proofs.EndingLemmas.{bare_stops}
use Rattle.hg_script.proofs.EndingLemmas.{stops_here}
use Rattle.hg_script.proofs.by_line.outputs_in.Goals as goal

pub loop-rest-init : goal.loop-rest-init
loop-rest-init c = record { prints = prints_on-start _ _ _ c.new-outputs.ensures.items; counted = omega arith }

pub loop-rest-preserved : goal.loop-rest-preserved
loop-rest-preserved c =
    let (t, does, prints) = c.in_ok-output.ensures.done in
    record {
      prints = prints_on-more _ _ _ _ _ _ _ _ t _ _ _ c.cut_line.ensures.lines does prints
          (texts-push _ _ _ c.in_ok-push.ensures.items) c.loop-rest.invariant.prints;
      counted = omega (arith, c.cut_line.ensures.shorter, c.loop-rest.invariant.counted);
    }

pub returns-in_err-output-clause-stopped : goal.returns-in_err-output-clause-stopped
returns-in_err-output-clause-stopped c =
    let p = err_from_is_err_and c.from_residual.result c.from_residual.ensures.1 in
    rw (p.1, p.2) (inr (c.loop-rest.invariant.prints.stopped _
    (stops_here _ _ _ _ _ _ _ None None c.cut_line.ensures.lines (bare_stops _ _ _ _ c.in_err-output.ensures.stopped)
    (λ own. refl) ([], tt))))

pub returns-clause-done : goal.returns-clause-done
returns-clause-done c =
    prints_on-end _ _ _ _ _ _
    (ap lines
    (nil_from_length c.loop-rest.rest.now
    (eqb-true (length c.loop-rest.rest.now) 0 (sym c.is_empty.ensures ∙ c.loop-rest-test.false))))
    c.loop-rest.invariant.prints
