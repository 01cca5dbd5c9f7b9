use Rattle.std.proofs.Common.{◌≡◌, ◌∙◌, Ok, drop, length, take, inl, inr, refl, ap, subst, arith}
use Rattle.hg_graph.specs.Graph.{nodes}
use Rattle.hg_phases.specs.declared.phase.Phase.TheVariants.{Draft}
use Rattle.hg_phases.specs.State.{state_of}
use Rattle.hg_phases.specs.Log.{restored}
use Rattle.hg_phases.proofs.LogLemmas.{fresh_log, IsLog-above}
use Rattle.std.specs.Cow.{cow_slice_items}
use Rattle.hg_history.specs.Change.{ListsLowered}
use Rattle.hg_history.specs.Steps.{CanTakeBack}
use Rattle.hg_history.proofs.AddLemmas.{front_kept, phases_kept, graph_added}
use Rattle.hg_history.proofs.AbsorbLemmas.{added_within, back_added, back_lowered, back_twice, admitted, least-absorbed}
use Rattle.hg_history.proofs.AbsorbLemmas.{in_order, told_at_state, bound_first}
use Rattle.hg_history.proofs.GrowthLemmas.{add_refusal, bound_wants_none, growth-adding, growth-after, growth-any}
use Rattle.hg_history.proofs.GrowthLemmas.{growth-draft, growth-longer, growth-logged, refused_along}
use Rattle.hg_history.proofs.absorb.absorb_logged.Goals as goal
use Rattle.hg_history.proofs.absorb.absorb_logged.Goals.{After-lower_to-2}

pub nodes_from-requires : goal.nodes_from-requires
nodes_from-requires c =
    let within =
    added_within c.args.graph.now c.args.phases.now (cow_slice_items c.args.changesets) (Ok tt) c.add_arriving.new.graph
    c.add_arriving.new.phases c.in-Ok.ensures in
    omega (arith, c.len-before.ensures.len, within)

pub returns-in-Err-clause-back : goal.returns-in-Err-clause-back
returns-in-Err-clause-back c =
    let done = c.in-Err.ensures in
    back_added _ _ _ _ _ _ _ c.requires.len done.3 c.requires.fresh

pub returns-in-Err-clause-refusal : goal.returns-in-Err-clause-refusal
returns-in-Err-clause-refusal c =
    add_refusal _ _ _ _ _ _ _ c.in-Err.ensures

pub returns-in-Err-clause-memory : goal.returns-in-Err-clause-memory
returns-in-Err-clause-memory c is =
    growth-adding _ _ _ _ c.requires.len _ _ _ c.in-Err.ensures (refused_along _ _ is)

pub returns-in-Err-check_bounds-clause-back : goal.returns-in-Err-check_bounds-clause-back
returns-in-Err-check_bounds-clause-back c =
    back_added _ _ _ _ _ _ _ c.requires.len c.in-Ok.ensures c.requires.fresh

pub returns-in-Err-check_bounds-clause-refusal : goal.returns-in-Err-check_bounds-clause-refusal
returns-in-Err-check_bounds-clause-refusal c =
    bound_first _ _ _ _ _ _ c.in-Ok.ensures _ c.in-Err-check_bounds.ensures.fault

pub returns-in-Err-check_bounds-clause-memory : goal.returns-in-Err-check_bounds-clause-memory
returns-in-Err-check_bounds-clause-memory c is =
    absurd (bound_wants_none _ _ _ c.in-Err-check_bounds.ensures.fault is)

pub returns-in_err-lower_to-clause-back : goal.returns-in_err-lower_to-clause-back
returns-in_err-lower_to-clause-back c =
    let ks = c.add_arriving.new.phases in
    back_lowered _ _ _ _ _ _ _ _ _ c.requires.len c.in-Ok.ensures
    c.lower_to.ensures.len (c.lower_to.ensures.logged ks (fresh_log _ _ _ c.requires.fresh))
    (c.lower_to.ensures.undoes ∙ ap (restored ks) c.requires.fresh)

pub returns-in_err-lower_to-clause-memory : goal.returns-in_err-lower_to-clause-memory
returns-in_err-lower_to-clause-memory c is =
    growth-after _ _ _ _ c.requires.len _ _ c.in-Ok.ensures
    c.in-Ok-check_bounds.ensures.held c.in_err-lower_to.ensures.memory

pub returns-in_err-lower_to-2-clause-memory : goal.returns-in_err-lower_to-2-clause-memory
returns-in_err-lower_to-2-clause-memory c is =
    growth-draft _ _ _ _ c.requires.len _ _ c.in-Ok.ensures c.in-Ok-check_bounds.ensures.held _ _ _
    c.lower_to.ensures.still c.in_err-lower_to-2.ensures.memory

pub returns-in_err-added-clause-memory : goal.returns-in_err-added-clause-memory
returns-in_err-added-clause-memory c is =
    growth-longer _ _ _ _ c.requires.len _ _ c.in-Ok.ensures
    (omega (arith, c.in_err-added.ensures.memory, c.len-before.ensures.len))

pub returns-in_err-lowered-clause-memory : goal.returns-in_err-lowered-clause-memory
returns-in_err-lowered-clause-memory c is =
    growth-logged _ _ _ _ c.requires.len _ _ c.in-Ok.ensures c.in-Ok-check_bounds.ensures.held _ _ _ _
    _ c.requires.fresh
    c.lower_to.ensures.still (elim c.lower_to-2.ensures.still [ inl higher ↦ inl higher | inr same ↦ inr same.1 ])
    c.in_err-lowered.ensures.memory

-- all that was done is taken back by the log
back : (c : After-lower_to-2) → CanTakeBack c.args.graph.now c.args.phases.now c.add_arriving.new.graph
    c.lower_to-2.new.phases c.lower_to-2.new.log
back c = back_twice _ _ _ _ _ _ _ _ _ _ _ c.requires.len c.in-Ok.ensures c.requires.fresh c.lower_to.ensures.len
    c.lower_to-2.ensures.len c.lower_to.ensures.logged c.lower_to-2.ensures.logged c.lower_to.ensures.undoes
    c.lower_to-2.ensures.undoes

pub returns-in_err-lower_to-2-clause-back : goal.returns-in_err-lower_to-2-clause-back
returns-in_err-lower_to-2-clause-back c = back (goal.at.returns-in_err-lower_to-2-clause-back c).After-lower_to-2

pub returns-in_err-added-clause-back : goal.returns-in_err-added-clause-back
returns-in_err-added-clause-back c = back (goal.at.returns-in_err-added-clause-back c).After-lower_to-2

pub returns-in_err-lowered-clause-back : goal.returns-in_err-lowered-clause-back
returns-in_err-lowered-clause-back c = back (goal.at.returns-in_err-lowered-clause-back c).After-lower_to-2

pub returns-clause-back : goal.returns-clause-back
returns-clause-back c = back (goal.at.returns-clause-back c).After-lower_to-2

pub returns-clause-absorbed : goal.returns-clause-absorbed
returns-clause-absorbed c =
    let held = c.args.graph.now in
    let had = c.args.phases.now in
    let cs = c.add_arriving.new.graph in
    let ks = c.add_arriving.new.phases in
    let new = c.lower_to-2.new.phases in
    let a = c.in-Ok.ensures in
    let there = c.in-Ok-check_bounds.ensures.held in
    let len : length new ≡ length cs = c.lower_to-2.ensures.len ∙ c.lower_to.ensures.len ∙ a.len in
    let public = c.lower_to.ensures.logged ks (fresh_log _ _ _ c.requires.fresh) in
    let logged = c.lower_to-2.ensures.logged ks (IsLog-above _ _ _ _ _ (omega arith) public) in
    let before = c.len-before.ensures.len in
    let down = c.in_ok-lowered.ensures.lowered Draft ks new (graph_added _ _ _ _ _ _ a) logged in
    let graph_is : take c.len-before.result cs ≡ held = ap (λ n. take n cs) before ∙ front_kept _ _ _ _ _ _ a in
    let phases_are : take c.len-before.result ks ≡ had =
    ap (λ n. take n ks) before ∙ phases_kept _ _ _ _ _ _ a c.requires.len in
    record {
      admitted = admitted _ _ _ _ _ _ a c.requires.len there;
      least = least-absorbed _ _ _ _ _ _ a c.requires.len there _ _
          c.in_ok-lower_to.ensures.lowered c.in_ok-lower_to-2.ensures.lowered len;
      order = in_order _ _ _ _ _ _ a c.requires.len there _ len;
      added = c.in_ok-added.ensures.nodes ∙ ap (λ n. drop n (nodes cs)) before
          ∙ told_at_state _ _ _ _ _ _ a c.requires.len there;
      lowered = subst (λ ds. ListsLowered (state_of ds had) (state_of cs new) c.in_ok-lowered.lowered.items) graph_is
          (subst (λ xs. ListsLowered (state_of (take c.len-before.result cs) xs) (state_of cs new)
          c.in_ok-lowered.lowered.items) phases_are down);
    }

pub returns-clause-growth : goal.returns-clause-growth
returns-clause-growth c some =
    growth-any _ _ _ _ c.requires.len _ _ c.in-Ok.ensures c.in-Ok-check_bounds.ensures.held _ _ _ _
    _ refl c.requires.fresh
    c.lower_to.ensures.still (elim c.lower_to-2.ensures.still [ inl higher ↦ inl higher | inr same ↦ inr same.1 ]) some
