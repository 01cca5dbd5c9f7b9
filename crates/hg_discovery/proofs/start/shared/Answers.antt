use Rattle.std.proofs.Common.{◌≡◌, ◌+◌, ◌∙◌, arith, length, slice_get, Some, ap, sym, subst, true≢false}
use Rattle.hg_graph.specs.Graph.{nodes}
use Rattle.hg_graph.specs.Places.{IsAt}
use Rattle.hg_phases.specs.declared.phase.Phase.TheVariants.{Secret}
use Rattle.hg_phases.specs.State.{changesets}
use Rattle.hg_graph.proofs.PlaceLemmas.{IsAt-within}
use Rattle.std.proofs.lemmas.Option.{none-some}
use Rattle.hg_discovery.specs.Start.{IsShared}
use Rattle.hg_discovery.proofs.StartLemmas.{phase_in_content, AreThoseTo, those_push, those_skip, all_those}
use Rattle.hg_discovery.proofs.start.shared.Goals as goal
use Rattle.hg_discovery.proofs.start.shared.Goals.{in-Some+then-not-has_phase_at+in_ok-push}
use Rattle.hg_discovery.proofs.start.shared.Goals.{in-Some+else-not-has_phase_at, in_default}

pub loop-place-preserved : goal.loop-place-preserved
loop-place-preserved c =
    let s = c.args.replica.now.history in
    let i = c.loop-place.place in
    let before : AreThoseTo (IsShared s) i c.loop-place.placed_nodes.items = c.loop-place.invariant in
    elim c.match-node_at.branch [
      | in-Some+then-not-has_phase_at+in_ok-push w ↦
          let at : IsAt (changesets s) w.in-Some.node i = subst
          (λ ds. slice_get (nodes ds) i ≡ Some w.in-Some.node) c.graph-graph.ensures.graph
          (sym c.node_at.ensures ∙ w.in-Some.is) in
          subst (AreThoseTo (IsShared s) (i + 1)) (sym (ap (λ v. v.items) w.placed_nodes-is
          ∙ w.in_ok-push.ensures.items))
          (those_push (changesets s) (IsShared s)
          (λ x h. h.0) i c.loop-place.placed_nodes.items before w.in-Some.node at (
            at,
            λ h. true≢false (sym ((w.has_phase_at.ensures w.in-Some.node at).1
                ((phase_in_content s c.graph-graph.ensures.valid.graph w.in-Some.node Secret).1 h))
                ∙ w.if-not-has_phase_at.true),
          ))
      | in-Some+else-not-has_phase_at w ↦
          let at : IsAt (changesets s) w.in-Some.node i = subst
          (λ ds. slice_get (nodes ds) i ≡ Some w.in-Some.node) c.graph-graph.ensures.graph
          (sym c.node_at.ensures ∙ w.in-Some.is) in
          subst (AreThoseTo (IsShared s) (i + 1)) (sym (ap (λ v. v.items) w.placed_nodes-is))
          (those_skip (changesets s) (IsShared s)
          (λ x h. h.0) i c.loop-place.placed_nodes.items before w.in-Some.node at
          (λ h. h.1
          ((phase_in_content s c.graph-graph.ensures.valid.graph w.in-Some.node Secret).0
          ((w.has_phase_at.ensures w.in-Some.node at).0 w.if-not-has_phase_at.false))))
      | in_default w ↦
          let there = IsAt-within c.graph-graph.result.now i (omega
          (arith, c.loop-place-test.true, c.len-place-end.ensures.len)) in
          absurd (none-some there.0 (sym (sym c.node_at.ensures ∙ w.in_default.is) ∙ there.1))
    ]

pub returns : goal.returns
returns c =
    let s = c.args.replica.now.history in
    all_those (changesets s) (IsShared s) (λ x h. h.0) c.loop-place.place c.loop-place.placed_nodes.items
    c.loop-place.invariant
    (omega (arith, c.loop-place-test.false, c.len-place-end.ensures.len, ap length c.graph-graph.ensures.graph))
