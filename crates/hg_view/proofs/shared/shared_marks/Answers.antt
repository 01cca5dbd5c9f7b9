use Rattle.std.proofs.Common.{◌≤◌, ◌+◌, not, length, sym, subst, arith, ap}
use Rattle.hg_graph.proofs.MarkLemmas.{TellsFirst, tells_none, tells_more, tells_all}
use Rattle.hg_history.proofs.ContentLemmas.{content-node, node_in_content}
use Rattle.hg_phases.specs.declared.phase.Phase.TheVariants.{Secret}
use Rattle.hg_phases.specs.State.{changesets}
use Rattle.hg_replica.specs.Content.{content_of}
use Rattle.hg_replica.specs.Evolution.{HasPhase}
use Rattle.hg_instab.proofs.QueryLemmas.{isnt_so}
use Rattle.hg_view.proofs.shared.shared_marks.Goals as goal

pub loop-place-init : goal.loop-place-init
loop-place-init c =
    let s = c.args.replica.now in
    subst (TellsFirst (changesets s.history) (λ n. ¬ (HasPhase (content_of s) n Secret)) 0)
    (sym c.in_ok-found.ensures.items) (tells_none (changesets s.history) (λ n. ¬ (HasPhase (content_of s) n Secret)))

pub loop-place-preserved : goal.loop-place-preserved
loop-place-preserved c =
    let s = c.args.replica.now in
    let i = c.loop-place.place in
    let told = c.has_phase_at.result in
    subst (TellsFirst (changesets s.history) (λ n. ¬ (HasPhase (content_of s) n Secret)) (i + 1))
    (sym c.in_ok-push.ensures.items)
    (tells_more (changesets s.history) (λ n. ¬ (HasPhase (content_of s) n Secret)) i c.loop-place.found.items (not told)
    c.loop-place.invariant (λ n at. isnt_so told (HasPhase (content_of s) n Secret) (c.has_phase_at.ensures n at)))

ended : (c : goal.After-loop-place) → length (changesets c.args.replica.now.history) ≤ c.loop-place.place
ended c = omega (arith, c.loop-place-test.false, c.len-place-end.ensures.len, ap length c.graph-graph.ensures.graph)

pub returns-clause-len : goal.returns-clause-len
returns-clause-len c = omega (
  arith,
  c.loop-place.invariant.len,
  c.loop-place.auto.place-end,
  ended c,
  c.len-place-end.ensures.len,
  ap length c.graph-graph.ensures.graph,
)

pub returns-clause-exact : goal.returns-clause-exact
returns-clause-exact c n =
    let s = c.args.replica.now in
    let graph = c.graph-graph.ensures.valid.graph in
    let told = tells_all (changesets s.history) (λ m. ¬ (HasPhase (content_of s) m Secret)) c.loop-place.place
    c.loop-place.found.items (ended c) c.loop-place.invariant n in (
      λ h. let x = told.0 h in (content-node s.history graph n x.0, x.1),
      λ h. told.1 (node_in_content s.history graph n h.0, h.1),
    )
