use Rattle.std.proofs.Common.{◌≡◌, ◌∙◌, [], ◌∷◌, length, inl, inr, refl, ap, subst}
use Rattle.hg_phases.specs.State.{state_of}
use Rattle.hg_phases.specs.Least.{IsLeast}
use Rattle.hg_phases.specs.Log.{restored}
use Rattle.hg_phases.proofs.LogLemmas.{fresh_log}
use Rattle.hg_phases.proofs.PlaceLemmas.{graph_of_state}
use Rattle.hg_history.specs.Answer.{IsGrowthBeforeFault}
use Rattle.hg_history.specs.Steps.{CanTakeBack}
use Rattle.hg_history.proofs.AbsorbLemmas.{back_added, back_lowered, back_twice, least-absorbed}
use Rattle.hg_history.proofs.GrowthLemmas.{growth-adding, growth-after, growth-any, growth-draft, refused_along}
use Rattle.hg_history.proofs.JoinLemmas.{bounds_held, fault_joined, part_is}
use Rattle.hg_history.proofs.join.join_logged.Goals as goal
use Rattle.hg_history.proofs.join.join_logged.Goals.{After-lower_to_each-2}

pub returns-in-Err-clause-back : goal.returns-in-Err-clause-back
returns-in-Err-clause-back c =
    let done = c.in-Err.ensures in
    back_added _ _ _ _ _ _ _ c.requires.len done.3 c.requires.fresh

pub returns-in-Err-clause-fault : goal.returns-in-Err-clause-fault
returns-in-Err-clause-fault c =
    fault_joined _ _ c.requires.other_len _ _ c.requires.len
    (graph_of_state _ _ c.requires.other_len c.requires.other_valid) _ _ _ c.in-Err.ensures

pub returns-in-Err-clause-memory : goal.returns-in-Err-clause-memory
returns-in-Err-clause-memory c is =
    subst (IsGrowthBeforeFault (state_of c.args.graph.now c.args.phases.now)) (part_is _ _ c.requires.other_len)
    (growth-adding _ _ _ _ c.requires.len _ _ _ c.in-Err.ensures (refused_along _ _ is))

pub returns-in_err-lower_to_each-clause-back : goal.returns-in_err-lower_to_each-clause-back
returns-in_err-lower_to_each-clause-back c =
    let ks = c.add_all.new.phases in
    back_lowered _ _ _ _ _ _ _ _ _ c.requires.len c.in-Ok.ensures c.lower_to_each.ensures.len
    (c.lower_to_each.ensures.logged ks (fresh_log _ _ _ c.requires.fresh))
    (c.lower_to_each.ensures.undoes ∙ ap (restored ks) c.requires.fresh)

pub lower_to_each-requires-clause-held : goal.lower_to_each-requires-clause-held
lower_to_each-requires-clause-held c =
    bounds_held _ _ c.requires.other_len _ _ _ _ c.in-Ok.ensures

pub lower_to_each-requires-2-clause-held : goal.lower_to_each-requires-2-clause-held
lower_to_each-requires-2-clause-held c =
    bounds_held _ _ c.requires.other_len _ _ _ _ c.in-Ok.ensures

pub returns-in_err-lower_to_each-clause-memory : goal.returns-in_err-lower_to_each-clause-memory
returns-in_err-lower_to_each-clause-memory c is =
    subst (IsGrowthBeforeFault (state_of c.args.graph.now c.args.phases.now)) (part_is _ _ c.requires.other_len)
    (growth-after _ _ _ _ c.requires.len _ _ c.in-Ok.ensures (bounds_held _ _ c.requires.other_len _ _
    _ _ c.in-Ok.ensures) c.in_err-lower_to_each.ensures.memory)

pub returns-in_err-lower_to_each-2-clause-memory : goal.returns-in_err-lower_to_each-2-clause-memory
returns-in_err-lower_to_each-2-clause-memory c is =
    subst (IsGrowthBeforeFault (state_of c.args.graph.now c.args.phases.now)) (part_is _ _ c.requires.other_len)
    (growth-draft _ _ _ _ c.requires.len _ _ c.in-Ok.ensures (bounds_held _ _ c.requires.other_len _ _
    _ _ c.in-Ok.ensures) _ _ _ c.lower_to_each.ensures.still c.in_err-lower_to_each-2.ensures.memory)

-- all that was done is taken back by the log
back : (c : After-lower_to_each-2) → CanTakeBack c.args.graph.now c.args.phases.now c.add_all.new.graph
    c.lower_to_each-2.new.phases c.lower_to_each-2.new.log
back c = back_twice _ _ _ _ _ _ _ _ _ _ _ c.requires.len c.in-Ok.ensures c.requires.fresh c.lower_to_each.ensures.len
    c.lower_to_each-2.ensures.len c.lower_to_each.ensures.logged c.lower_to_each-2.ensures.logged
    c.lower_to_each.ensures.undoes c.lower_to_each-2.ensures.undoes

pub returns-in_err-lower_to_each-2-clause-back : goal.returns-in_err-lower_to_each-2-clause-back
returns-in_err-lower_to_each-2-clause-back c =
    back (goal.at.returns-in_err-lower_to_each-2-clause-back c).After-lower_to_each-2

pub returns-clause-back : goal.returns-clause-back
returns-clause-back c = back (goal.at.returns-clause-back c).After-lower_to_each-2

pub returns-clause-joined : goal.returns-clause-joined
returns-clause-joined c =
    let held = c.args.graph.now in
    let had = c.args.phases.now in
    let cs = c.add_all.new.graph in
    let new = c.lower_to_each-2.new.phases in
    let a = c.in-Ok.ensures in
    let there = bounds_held _ _ c.requires.other_len _ _ _ _ a in
    let len : length new ≡ length cs = c.lower_to_each-2.ensures.len ∙ c.lower_to_each.ensures.len ∙ a.len in
    subst (λ k. IsLeast (state_of held had) (k ∷ []) (state_of cs new)) (part_is _ _ c.requires.other_len)
    (least-absorbed _ _ _ _ _ _ a c.requires.len there _ _
    c.in_ok-lower_to_each.ensures.lowered c.in_ok-lower_to_each-2.ensures.lowered len)

pub returns-clause-growth : goal.returns-clause-growth
returns-clause-growth c some =
    subst (IsGrowthBeforeFault (state_of c.args.graph.now c.args.phases.now)) (part_is _ _ c.requires.other_len)
    (growth-any _ _ _ _ c.requires.len _ _ c.in-Ok.ensures (bounds_held _ _ c.requires.other_len _ _
    _ _ c.in-Ok.ensures) _ _ _ _ _ refl c.requires.fresh c.lower_to_each.ensures.still
    (elim c.lower_to_each-2.ensures.still [ inl higher ↦ inl higher | inr same ↦ inr same.1 ]) some)
