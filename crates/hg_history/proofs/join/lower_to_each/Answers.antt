use Rattle.std.proofs.Common.{◌≡◌, ◌<◌, ◌≤◌, ◌+◌, length, take, slice_get, Some, inl, inr, sym, ap, subst, ◌∙◌, arith}
use Rattle.std.proofs.lemmas.List.{take_all}
use Rattle.std.proofs.lemmas.Option.{none-some, slice_get_within}
use Rattle.std.proofs.lemmas.Result.{MatchResult-from_err}
use Rattle.hg_graph.proofs.PlaceLemmas.{IsAt-within}
use Rattle.hg_phases.specs.State.{IsValid, state_of}
use Rattle.hg_phases.specs.Least.{part_of}
use Rattle.hg_phases.specs.Log.{IsLog, restored}
use Rattle.hg_history.specs.Steps.{IsLoweredTo}
use Rattle.hg_history.proofs.BoundLemmas.{IsLoweredTo-step, valid-lowered, higher_at, still_more}
use Rattle.hg_history.proofs.JoinLemmas.{bound_at, bounds_len}
use Rattle.hg_history.proofs.join.lower_to_each.Goals as goal
use Rattle.hg_history.proofs.join.lower_to_each.Goals.{in-Some+in_ok-lower_bound-in-Some, in-None}

pub lower_bound-requires-clause-held : goal.lower_bound-requires-clause-held
lower_bound-requires-clause-held c =
    let bounds = (part_of (state_of c.args.other.now c.args.other_phases.now)).bounds in
    let at = bound_at _ _ c.requires.other_len _ _ _ (sym c.in-Some.ensures) c.at.ensures in
    c.requires.held c.loop-place.place (c.in-Some.node, c.at.result)
    (slice_get_within bounds c.loop-place.place (c.in-Some.node, c.at.result) at) at

pub loop-place-preserved : goal.loop-place-preserved
loop-place-preserved c = elim c.match-node_at.branch [
  | in-Some+in_ok-lower_bound-in-Some w ↦
      let cs = c.args.graph.now in
      let bounds = (part_of (state_of c.args.other.now c.args.other_phases.now)).bounds in
      let i = c.loop-place.place in
      let at : slice_get bounds i ≡ Some (w.in-Some.node, w.at.result) = bound_at _ _ c.requires.other_len _ _ _
      (sym w.in-Some.ensures) w.at.ensures in
      let inv = c.loop-place.invariant in
      let ens = w.in_ok-lower_bound-in-Some.ensures in
      let new = w.lower_bound.new.phases in
      let step = IsLoweredTo-step _ _ _ _ _ _ _ _ at inv.lowered ens.lowered in
      record {
        len = ap length w.phases-is ∙ ens.len ∙ inv.len;
        valid = subst (λ ks. IsValid (state_of cs ks)) (sym w.phases-is)
            (valid-lowered _ _ _ _ _ inv.valid ens.lowered);
        lowered = subst (λ ks. IsLoweredTo cs (take (i + 1) bounds) c.args.phase c.args.phases.now ks) (sym w.phases-is)
            step;
        logged = λ start h. subst (λ ks. IsLog c.args.phase start ks c.match-node_at.log) (sym w.phases-is)
            (subst (IsLog c.args.phase start new) (sym w.log-is) (ens.logged start (inv.logged start h)));
        undoes = (λ t. restored (w.phases-is t) (w.log-is t)) ∙ ens.undoes ∙ inv.undoes;
        still = elim
            (still_more _ _ _ _ at c.args.phases.now c.loop-place.phases
            c.args.log.now c.loop-place.log inv.still new w.lower_bound.new.log ens.still) [
              | inl higher ↦ inl higher
              | inr same ↦ inr (w.phases-is ∙ same.0, w.log-is ∙ same.1)
            ];
      }
  | in-None w ↦
      let within : c.loop-place.place < length c.args.other.now =
      omega (arith, c.loop-place-test.true, c.len-place-end.ensures.len) in
      let at = IsAt-within _ _ within in
      absurd (none-some at.0 (w.in-None.ensures ∙ at.1))
]

pub returns-clause-lowered : goal.returns-clause-lowered
returns-clause-lowered c =
    let bounds = (part_of (state_of c.args.other.now c.args.other_phases.now)).bounds in
    let le : length bounds ≤ c.loop-place.place = omega (
      arith,
      bounds_len _ _ c.requires.other_len,
      c.loop-place-test.false,
      c.len-place-end.ensures.len,
    ) in
    let all : take c.loop-place.place bounds ≡ bounds = take_all _ _ le in
    subst (λ bs. IsLoweredTo c.args.graph.now bs c.args.phase c.args.phases.now c.loop-place.phases) all
    c.loop-place.invariant.lowered

pub returns-in_err-lower_bound-in-Some-clause-memory : goal.returns-in_err-lower_bound-in-Some-clause-memory
returns-in_err-lower_bound-in-Some-clause-memory c =
    let bounds = (part_of (state_of c.args.other.now c.args.other_phases.now)).bounds in
    let at = bound_at _ _ c.requires.other_len _ _ _ (sym c.in-Some.ensures) c.at.ensures in
    MatchResult-from_err _ _ _ c.from_residual.ensures.0 (λ _. higher_at _ _ _ _ at c.args.phases.now
    c.loop-place.phases c.args.log.now c.loop-place.log c.loop-place.invariant.still
    c.in_err-lower_bound-in-Some.ensures.memory)

pub returns-in_err-lower_bound-in-Some-clause-still : goal.returns-in_err-lower_bound-in-Some-clause-still
returns-in_err-lower_bound-in-Some-clause-still c =
    let bounds = (part_of (state_of c.args.other.now c.args.other_phases.now)).bounds in
    let at = bound_at _ _ c.requires.other_len _ _ _ (sym c.in-Some.ensures) c.at.ensures in
    still_more _ _ _ _ at c.args.phases.now
    c.loop-place.phases c.args.log.now c.loop-place.log c.loop-place.invariant.still c.lower_bound.new.phases
    c.lower_bound.new.log c.in_err-lower_bound-in-Some.ensures.still
