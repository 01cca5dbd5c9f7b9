use Rattle.std.proofs.Common.{ℕ, refl, subst, inl, inr}
use Rattle.std.proofs.lemmas.Result.{err_from_is_err_and}
use Rattle.hg_line.specs.Printing.{no_notes}
use Rattle.hg_line.specs.Lines.{IsNewFleet}
use Rattle.hg_script.proofs.EndingLemmas.{stopped_text}
use Rattle.hg_script.proofs.ScriptLemmas.{run_to, written_run}
use Rattle.hg_script.proofs.script.run_text.Goals as goal

pub returns-in_err-fleet-clause-stopped : goal.returns-in_err-fleet-clause-stopped
returns-in_err-fleet-clause-stopped g c =
    let p = err_from_is_err_and c.from_residual.result c.from_residual.ensures.1 in
    rw (p.1, p.2) (inl (refl, refl))

pub returns-in_err-run_lines-clause-stopped : goal.returns-in_err-run_lines-clause-stopped
returns-in_err-run_lines-clause-stopped g c =
    let p = err_from_is_err_and c.from_residual-in_err-run_lines.result c.from_residual-in_err-run_lines.ensures.1 in
    let start = c.in_ok-fleet.fleet in
    rw (p.1, p.2) (inr (stopped_text _ _ start _ _ _
    (subst (λ (n : ℕ). IsNewFleet n start) c.count_nodes.ensures c.in_ok-fleet.ensures.new)
    c.in_err-run_lines.ensures.stopped))

pub returns-clause-ran : goal.returns-clause-ran
returns-clause-ran g c =
    let (t, output, did, grew) = c.in_ok-run_lines.ensures.done in
    let start = c.in_ok-fleet.fleet in
    let new = subst (λ (n : ℕ). IsNewFleet n start) c.count_nodes.ensures c.in_ok-fleet.ensures.new in
    run_to c.runs_compose.ensures no_notes c.args.text.now start t c.run_lines.new.fleet output new did

pub returns-clause-printed : goal.returns-clause-printed
returns-clause-printed g c =
    let (t, output, did, grew) = c.in_ok-run_lines.ensures.done in
    let start = c.in_ok-fleet.fleet in
    let new = subst (λ (n : ℕ). IsNewFleet n start) c.count_nodes.ensures c.in_ok-fleet.ensures.new in
    written_run c.runs_compose.ensures no_notes c.args.text.now start t c.run_lines.new.fleet output _ _ new did grew
