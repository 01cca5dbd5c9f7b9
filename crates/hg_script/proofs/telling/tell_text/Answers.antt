use Rattle.std.proofs.Common.{ℕ, refl, inl, inr, subst}
use Rattle.std.proofs.lemmas.Result.{err_from_is_err_and}
use Rattle.hg_line.specs.Lines.{IsNewFleet}
use Rattle.hg_script.proofs.EndingLemmas.{stopped_text}
use Rattle.hg_script.proofs.ScriptLemmas.{counted_run, run_to}
use Rattle.hg_script.proofs.telling.tell_text.Goals as goal

pub returns-in_err-fleet-clause-stopped : goal.returns-in_err-fleet-clause-stopped
returns-in_err-fleet-clause-stopped g c =
    let p = err_from_is_err_and c.from_residual.result c.from_residual.ensures.1 in
    rw (p.1, p.2) (inl (refl, refl))

pub returns-in-Err-clause-stopped : goal.returns-in-Err-clause-stopped
returns-in-Err-clause-stopped g c =
    let start = c.in_ok-fleet.fleet in
    rw c.with_origin.ensures (inr (stopped_text _ _ start _ _ _
    (subst (λ (n : ℕ). IsNewFleet n start) c.count_nodes.ensures c.in_ok-fleet.ensures.new) c.in-Err.ensures.stopped))

pub returns-in-Ok-clause-ran : goal.returns-in-Ok-clause-ran
returns-in-Ok-clause-ran g c =
    let (t, output, did, grew, counted) = c.in-Ok.ensures.done in
    let start = c.in_ok-fleet.fleet in
    let new = subst (λ (n : ℕ). IsNewFleet n start) c.count_nodes.ensures c.in_ok-fleet.ensures.new in
    run_to c.runs_compose.ensures c.args.notes c.args.text.now start t c.tell_lines.new.fleet output new did

pub returns-in-Ok-clause-written : goal.returns-in-Ok-clause-written
returns-in-Ok-clause-written g c =
    let (t, output, did, grew, counted) = c.in-Ok.ensures.done in
    let start = c.in_ok-fleet.fleet in
    let new = subst (λ (n : ℕ). IsNewFleet n start) c.count_nodes.ensures c.in_ok-fleet.ensures.new in
    counted_run c.runs_compose.ensures c.args.notes c.args.text.now start t c.tell_lines.new.fleet output _ _ _ new did
    grew counted
