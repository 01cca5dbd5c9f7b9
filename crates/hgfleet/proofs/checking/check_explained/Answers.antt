use Rattle.std.proofs.Common.{List, inr, subst, sym, ℕ}
use Rattle.std.proofs.lemmas.Result.{IfErr-weaker, on_ok_weaker}
use Rattle.hg_script.specs.Scripts.{IsScriptOf}
use Rattle.hgfleet.proofs.checking.check_explained.Goals as goal

pub returns-clause-done : goal.returns-clause-done
returns-clause-done g c =
    let read = c.in_ok-text.ensures in
    let script = subst (λ (t : List ℕ). IsScriptOf (g.R.Read.remaining c.args.reader.now) t)
    (sym c.deref-script.ensures.value) (read.limit, read.whole) in
    let told = c.in_ok-tell_refusals in
    on_ok_weaker c.check_unexplained.result
    (λ d. (c.deref-script.result.now, told.field-0.fleet.world, told.field-0.refused, script, told.ensures.told, d))
    c.check_unexplained.ensures.done

pub returns-clause-failed : goal.returns-clause-failed
returns-clause-failed g c =
    let read = c.in_ok-text.ensures in
    let script = subst (λ (t : List ℕ). IsScriptOf (g.R.Read.remaining c.args.reader.now) t)
    (sym c.deref-script.ensures.value) (read.limit, read.whole) in
    IfErr-weaker c.check_unexplained.result _ _ (λ failure ended. inr (c.deref-script.result.now, script, inr ended))
    c.check_unexplained.ensures.failed
