use Rattle.std.proofs.lemmas.Result.{err_from_is_err_and}
use Rattle.hg_line.specs.declared.fault.RunFault.{RunFault}
use Rattle.hg_line.specs.declared.fleet.Fleet.{Fleet}
use Rattle.hg_line.specs.Commands.{Text}
use Rattle.hg_line.specs.Printing.{no_notes}
use Rattle.hg_script.specs.Printing.{WritesRun}
use Rattle.hg_script.specs.Scripts.{IsRunTo}
use Rattle.hg_script.proofs.EndingLemmas.{input_stop, script_of, stops_of, of_script}
use Rattle.hg_script.proofs.script.run_fleet.Goals as goal

pub returns-in_err-text-clause-stopped : goal.returns-in_err-text-clause-stopped
returns-in_err-text-clause-stopped g c =
    let p = err_from_is_err_and c.from_residual.result c.from_residual.ensures.1 in
    rw (p.1, p.2) (input_stop _ _ _ _ c.in_err-text.ensures.fault c.in_err-text.ensures.too_long)

pub returns-clause-ran : goal.returns-clause-ran
returns-clause-ran g c =
    of_script IsRunTo _ _ c.run_text.result
    (script_of _ _ _ c.deref.ensures.value c.in_ok-text.ensures.limit c.in_ok-text.ensures.whole)
    c.run_text.ensures.ran

pub returns-clause-printed : goal.returns-clause-printed
returns-clause-printed g c =
    let held = g.W.Write.contents c.args.writer.now in
    let holds = g.W.Write.contents c.run_text.new.writer in
    of_script (λ (text : Text) (fleet : Fleet). WritesRun no_notes text fleet.world held holds) _ _ c.run_text.result
    (script_of _ _ _ c.deref.ensures.value c.in_ok-text.ensures.limit c.in_ok-text.ensures.whole)
    c.run_text.ensures.printed

pub returns-clause-stopped : goal.returns-clause-stopped
returns-clause-stopped g c =
    stops_of _ (λ (fault : RunFault). fault) _ _ c.run_text.result _ _
    (script_of _ _ _ c.deref.ensures.value c.in_ok-text.ensures.limit c.in_ok-text.ensures.whole)
    c.run_text.ensures.stopped
