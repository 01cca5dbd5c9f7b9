use Rattle.std.proofs.Common.{None, refl, subst}
use Rattle.std.proofs.lemmas.Result.{err_from_is_err_and}
use Rattle.hg_expect.specs.Expectations.{texts}
use Rattle.hg_script.specs.ByLine.{PrintsEach}
use Rattle.hg_line.specs.Commands.{Text}
use Rattle.hg_script.proofs.EndingLemmas.{input_stop, script_of, stop_of}
use Rattle.hg_script.proofs.by_line.run_by_line.Goals as goal

pub returns-in_err-text-clause-stopped : goal.returns-in_err-text-clause-stopped
returns-in_err-text-clause-stopped g c =
    let p = err_from_is_err_and c.from_residual.result c.from_residual.ensures.1 in
    rw (p.1, p.2) (input_stop _ _ _ None c.in_err-text.ensures.fault c.in_err-text.ensures.too_long)

pub returns-in-Ok-clause-read : goal.returns-in-Ok-clause-read
returns-in-Ok-clause-read g c = script_of _ _ _ refl c.in_ok-text.ensures.limit c.in_ok-text.ensures.whole

pub returns-in-Ok-clause-printed : goal.returns-in-Ok-clause-printed
returns-in-Ok-clause-printed g c =
    subst (λ (text : Text). PrintsEach text (texts c.in-Ok.outputs.items)) c.deref.ensures.value
    c.in-Ok.ensures.printed

pub returns-in-Err-clause-stopped : goal.returns-in-Err-clause-stopped
returns-in-Err-clause-stopped g c =
    stop_of _ _ _ _ None None
    (script_of _ _ _ c.deref.ensures.value c.in_ok-text.ensures.limit c.in_ok-text.ensures.whole)
    c.in-Err.ensures.stopped
