use Rattle.std.proofs.Common.{ℕ, None, refl, subst, inl, inr}
use Rattle.std.proofs.lemmas.Result.{IfErr-weaker, IfOk-weaker, err_from_is_err_and}
use Rattle.hg_line.specs.Lines.{IsNewFleet}
use Rattle.hg_script.proofs.ByLineLemmas.{prints_each}
use Rattle.hg_script.proofs.EndingLemmas.{stopped_text}
use Rattle.hg_script.proofs.by_line.outputs_of.Goals as goal

pub returns-in_err-fleet-clause-stopped : goal.returns-in_err-fleet-clause-stopped
returns-in_err-fleet-clause-stopped c =
    let p = err_from_is_err_and c.from_residual.result c.from_residual.ensures.1 in
    rw (p.1, p.2) (inl (refl, refl))

pub returns-clause-printed : goal.returns-clause-printed
returns-clause-printed c =
    let start = c.in_ok-fleet.fleet in
    let new = subst (λ (n : ℕ). IsNewFleet n start) c.count_nodes.ensures c.in_ok-fleet.ensures.new in
    IfOk-weaker c.outputs_in.result _ _
    (λ outputs done. prints_each c.runs_compose.ensures c.args.text.now start done.0 _ _ new done.1)
    c.outputs_in.ensures.done

pub returns-clause-stopped : goal.returns-clause-stopped
returns-clause-stopped c =
    let start = c.in_ok-fleet.fleet in
    let new = subst (λ (n : ℕ). IsNewFleet n start) c.count_nodes.ensures c.in_ok-fleet.ensures.new in
    IfErr-weaker c.outputs_in.result _ _
    (λ fault stopped. elim stopped [
      | inl none ↦ inl (none, refl)
      | inr stops ↦ inr (stopped_text _ c.args.text.now start fault None None new stops)
    ])
    c.outputs_in.ensures.stopped
