use Rattle.std.proofs.lemmas.Result.{err_from_is_err_and}
use Rattle.std.proofs.Common.{◌≡◌}
use Rattle.hg_script.specs.declared.telling.Outcome.{Outcome}
use Rattle.hg_line.specs.declared.telling.NotedFault.{NotedFault}
use Rattle.hg_line.specs.Commands.{Text}
use Rattle.hg_line.specs.Events.{refusals}
use Rattle.hg_script.specs.Printing.{WritesRun}
use Rattle.hg_script.specs.Scripts.{IsRunTo}
use Rattle.hg_script.proofs.EndingLemmas.{input_stop, script_of, stops_of, of_script}
use Rattle.hg_script.proofs.telling.run_with_notes.Goals as goal

pub returns-in_err-text-clause-stopped : goal.returns-in_err-text-clause-stopped
returns-in_err-text-clause-stopped g c =
    let p = err_from_is_err_and c.from_residual.result c.from_residual.ensures.1 in
    rw (p.1, p.2) (input_stop _ _ _ _ c.in_err-text.ensures.fault c.in_err-text.ensures.too_long)

pub returns-clause-ran : goal.returns-clause-ran
returns-clause-ran g c =
    of_script (λ (text : Text) (outcome : Outcome). IsRunTo text outcome.fleet) _ _ c.tell_text.result
    (script_of _ _ _ c.deref.ensures.value c.in_ok-text.ensures.limit c.in_ok-text.ensures.whole)
    c.tell_text.ensures.ran

pub returns-clause-written : goal.returns-clause-written
returns-clause-written g c =
    let held = g.W.Write.contents c.args.writer.now in
    let holds = g.W.Write.contents c.tell_text.new.writer in
    of_script (λ (text : Text) (outcome : Outcome).
    (written : WritesRun c.args.notes text outcome.fleet.world held holds)
    × (outcome.refused ≡ refusals written.run.trace)) _ _ c.tell_text.result
    (script_of _ _ _ c.deref.ensures.value c.in_ok-text.ensures.limit c.in_ok-text.ensures.whole)
    c.tell_text.ensures.written

pub returns-clause-stopped : goal.returns-clause-stopped
returns-clause-stopped g c =
    stops_of _ (λ (ended : NotedFault). ended.fault) _ _ c.tell_text.result _ _
    (script_of _ _ _ c.deref.ensures.value c.in_ok-text.ensures.limit c.in_ok-text.ensures.whole)
    c.tell_text.ensures.stopped
