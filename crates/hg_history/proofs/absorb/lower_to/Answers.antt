use Rattle.std.proofs.Common.{◌≡◌, ◌<◌, ◌∙◌, [], length, take, get_or, subst, arith}
use Rattle.std.proofs.lemmas.List.{take_all}
use Rattle.std.proofs.lemmas.Option.{slice_get-get_or}
use Rattle.std.proofs.lemmas.Result.{MatchResult-from_err}
use Rattle.hg_changeset.specs.declared.node.Node.{Node}
use Rattle.hg_phases.specs.declared.phase.Phase.{Phase}
use Rattle.hg_phases.specs.declared.phase.Phase.TheVariants.{Public}
use Rattle.hg_history.specs.Steps.{IsLoweredTo}
use Rattle.hg_history.proofs.BoundLemmas.{IsLoweredTo-step, valid-lowered, higher_at, still_more}
use Rattle.hg_history.proofs.absorb.lower_to.Goals as goal

any : Node × Phase
any = (record { 0 = [] }, Public)

pub lower_bound-requires-clause-held : goal.lower_bound-requires-clause-held
unfolding any
lower_bound-requires-clause-held c =
    let bounds = c.args.bounds.now in
    let i = c.loop-bound.bound-index in
    let l : i < length bounds = omega arith in
    c.requires.held i (get_or bounds i any) l (slice_get-get_or bounds i any l)

pub loop-bound-preserved : goal.loop-bound-preserved
unfolding any
loop-bound-preserved c =
    let bounds = c.args.bounds.now in
    let i = c.loop-bound.bound-index in
    let b : Node × Phase = get_or bounds i any in
    let l : i < length bounds = omega arith in
    let w = c.loop-bound.invariant in
    let one = c.in_ok-lower_bound.ensures.lowered in
    record {
      len = c.in_ok-lower_bound.ensures.len ∙ w.len;
      valid = valid-lowered _ _ _ _ _ w.valid one;
      lowered = IsLoweredTo-step _ _ _ _ _ _ _
          _ (slice_get-get_or _ _ _ l) w.lowered one;
      logged = λ start h. c.in_ok-lower_bound.ensures.logged start (w.logged start h);
      undoes = c.in_ok-lower_bound.ensures.undoes ∙ w.undoes;
      still = still_more _ _ _ _ (slice_get-get_or _ _ _ l) _ _
          _ _ w.still _ _ c.in_ok-lower_bound.ensures.still;
    }

pub returns-clause-lowered : goal.returns-clause-lowered
returns-clause-lowered c =
    let bounds = c.args.bounds.now in
    let all : take c.loop-bound.bound-index bounds ≡ bounds = take_all _ _ (omega arith) in
    subst (λ bs. IsLoweredTo c.args.graph.now bs c.args.phase c.args.phases.now c.loop-bound.phases) all
    c.loop-bound.invariant.lowered

pub returns-in_err-lower_bound-clause-memory : goal.returns-in_err-lower_bound-clause-memory
unfolding any
returns-in_err-lower_bound-clause-memory c =
    let bounds = c.args.bounds.now in
    let i = c.loop-bound.bound-index in
    let l : i < length bounds = omega arith in
    MatchResult-from_err _ _ _ c.from_residual.ensures.0 (λ _. higher_at _ _ _ _ (slice_get-get_or _ _ _ l) _
    _ _ _ c.loop-bound.invariant.still c.in_err-lower_bound.ensures.memory)

pub returns-in_err-lower_bound-clause-still : goal.returns-in_err-lower_bound-clause-still
unfolding any
returns-in_err-lower_bound-clause-still c =
    let bounds = c.args.bounds.now in
    let i = c.loop-bound.bound-index in
    let l : i < length bounds = omega arith in
    still_more _ _ _ _ (slice_get-get_or _ _ _ l) _ _ _ _ c.loop-bound.invariant.still _
    _ c.in_err-lower_bound.ensures.still
