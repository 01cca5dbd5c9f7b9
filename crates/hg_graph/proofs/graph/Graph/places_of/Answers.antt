use Rattle.std.proofs.Common.{[], ◌≡◌, ◌↔◌, ◌+◌, ℕ, List, Contains, get_or, take, arith, sym, ap, subst, ◌∙◌}
use Rattle.std.proofs.lemmas.List.{get_or_default, take_all}
use Rattle.hg_changeset.specs.declared.node.Node.{Node}
use Rattle.hg_changeset.proofs.ListLemmas.{on_err_anyway}
use Rattle.hg_graph.specs.Places.{IsPlaceOfOne}
use Rattle.hg_graph.proofs.WalkLemmas.{placed-push, placed-skip, place_held}
use Rattle.hg_graph.proofs.graph.Graph.places_of.Goals as goal
use Rattle.hg_graph.proofs.graph.Graph.places_of.Goals.{in-Some+in_ok-push, in_default}

pub loop-node-preserved : goal.loop-node-preserved
loop-node-preserved c =
    let cs = c.args.self.now in
    let ns = c.args.nodes.now in
    let i = c.loop-node.node-index in
    let none : Node = record { 0 = [] } in
    let x = get_or ns i none in
    let there = get_or_default ns i x none c.loop-node-test.true in
    let old = c.loop-node.places.items in
    elim c.match-place.branch [
      | in-Some+in_ok-push w ↦
          subst (λ (found : List ℕ). (k : ℕ) → Contains found k ↔ IsPlaceOfOne cs (take (i + 1) ns) k)
          (sym (ap (λ v. v.items) w.places-is ∙ w.in_ok-push.ensures.items))
          (placed-push cs ns i x c.loop-node-test.true there old c.loop-node.invariant w.in-Some.place
          w.in-Some.ensures.place)
      | in_default w ↦
          subst (λ (found : List ℕ). (k : ℕ) → Contains found k ↔ IsPlaceOfOne cs (take (i + 1) ns) k)
          (sym (ap (λ v. v.items) w.places-is))
          (placed-skip cs ns i x c.loop-node-test.true there old c.loop-node.invariant w.in_default.ensures.place)
    ]

pub returns-clause-answer : goal.returns-clause-answer
returns-clause-answer c =
    let ns = c.args.nodes.now in
    let all : take c.loop-node.node-index ns ≡ ns = take_all c.loop-node.node-index ns
    (omega (arith, c.loop-node-test.false)) in
    rw all at c.loop-node.invariant

pub returns-in_err-push-clause-memory : goal.returns-in_err-push-clause-memory
returns-in_err-push-clause-memory c =
    on_err_anyway c.from_residual.result
    _ (place_held c.args.self.now c.args.nodes.now c.loop-node.node-index (record { 0 = [] }) c.loop-node-test.true
    c.in-Some.place c.in-Some.ensures.place)
