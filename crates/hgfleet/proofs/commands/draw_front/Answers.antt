use Rattle.std.proofs.Common.{List, inr, subst, sym, ℕ}
use Rattle.std.proofs.lemmas.Result.{IfErr-weaker, on_ok_weaker}
use Rattle.hg_script.specs.Scripts.{IsScriptOf}
use Rattle.hgfleet.proofs.commands.draw_front.Goals as goal

pub returns-in-Some-clause-drawn : goal.returns-in-Some-clause-drawn
returns-in-Some-clause-drawn g c =
    let read = c.in_ok-text.ensures in
    let script = subst (λ (t : List ℕ). IsScriptOf (g.R.Read.remaining c.args.reader.now) t) (sym c.deref.ensures.value)
    (read.limit, read.whole) in
    on_ok_weaker c.draw_script.result
    (λ d. (c.deref.result.now, c.in-Some.front.now, script, c.in-Some.ensures.cut, d)) c.draw_script.ensures.drawn

pub returns-in-Some-clause-failed : goal.returns-in-Some-clause-failed
returns-in-Some-clause-failed g c =
    let read = c.in_ok-text.ensures in
    let script = subst (λ (t : List ℕ). IsScriptOf (g.R.Read.remaining c.args.reader.now) t) (sym c.deref.ensures.value)
    (read.limit, read.whole) in
    IfErr-weaker c.draw_script.result _ _
    (λ failure ended. inr (c.deref.result.now, c.in-Some.front.now, script, c.in-Some.ensures.cut, ended))
    c.draw_script.ensures.failed
