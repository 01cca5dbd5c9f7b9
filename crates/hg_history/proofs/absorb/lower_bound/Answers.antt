use Rattle.std.proofs.Common.{rules, ◌≡◌, [], ◌∷◌, inl, inr, sym, subst, ◌∙◌}
use denote.Enum.Bare.{same_true}
use Rattle.std.proofs.lemmas.Result.{on_ok_weaker, on_err_weaker}
use Rattle.hg_phases.specs.contracts.phase.Phase.{the_type}
use Rattle.hg_phases.specs.State.{state_of}
use Rattle.hg_phases.specs.Lowered.{IsAbove}
use Rattle.hg_phases.specs.Least.{IsLeast, bound_alone}
use Rattle.hg_history.proofs.absorb.lower_bound.Goals as goal

pub returns-then-eq-clause-lowered : goal.returns-then-eq-clause-lowered
returns-then-eq-clause-lowered c =
    let is : c.args.bound.1 ≡ c.args.phase = same_true the_type (search rules) _ _ (sym c.eq.ensures ∙ c.if-eq.true) in
    on_ok_weaker c.lower_logged.result
    (λ least. inl (
      is,
      subst (λ k. IsLeast (state_of c.args.graph.now c.args.phases.now) (bound_alone (c.args.bound.0, k) ∷ [])
          (state_of c.args.graph.now c.lower_logged.new.self)) (sym is) least,
    ))
    c.lower_logged.ensures.least

pub returns-then-eq-clause-memory : goal.returns-then-eq-clause-memory
returns-then-eq-clause-memory c =
    let is : c.args.bound.1 ≡ c.args.phase = same_true the_type (search rules) _ _ (sym c.eq.ensures ∙ c.if-eq.true) in
    on_err_weaker c.lower_logged.result
    (subst (IsAbove (state_of c.args.graph.now c.args.phases.now) c.args.bound.0) (sym is))
    c.lower_logged.ensures.memory

pub returns-then-eq-clause-still : goal.returns-then-eq-clause-still
returns-then-eq-clause-still c =
    let is : c.args.bound.1 ≡ c.args.phase = same_true the_type (search rules) _ _ (sym c.eq.ensures ∙ c.if-eq.true) in
    elim c.lower_logged.ensures.still [
      | inl above ↦ inl (subst (IsAbove (state_of c.args.graph.now c.args.phases.now) c.args.bound.0) (sym is) above)
      | inr same ↦ inr same
    ]
