use Rattle.std.proofs.Common.{◌↔◌, ◌+◌, ◌≡◌, List, Contains, take, sym, subst, ap, ◌∙◌, arith}
use Rattle.std.proofs.lemmas.List.{take_all}
use Rattle.std.proofs.lemmas.Option.{none-some}
use Rattle.hg_graph.specs.Places.{IsAt}
use Rattle.hg_discovery.specs.declared.finding.PlacedNode.{PlacedNode}
use Rattle.hg_discovery.proofs.PlacedNodeLemmas.{placed_nodes-push, placed_nodes-skip}
use Rattle.hg_discovery.proofs.heads.placed_nodes_at.Goals as goal
use Rattle.hg_discovery.proofs.heads.placed_nodes_at.Goals.{in-Some+in_ok-push, in_default}

pub loop-place-preserved : goal.loop-place-preserved
loop-place-preserved c =
    let cs = c.args.graph.now in
    let ps = c.args.places.now in
    let i = c.loop-place.place-index in
    let l = c.loop-place-test.true in
    let old = c.loop-place.found.items in
    let So : List PlacedNode → Type 0 = λ xs. (x : PlacedNode) → Contains xs x
    ↔ (Contains (take (i + 1) ps) x.place × IsAt cs x.node x.place) in
    elim c.match-node_at.branch [
      | in-Some+in_ok-push w ↦ subst So (sym (ap (λ v. v.items) w.found-is ∙ w.in_ok-push.ensures.items))
          (placed_nodes-push cs ps i l old c.loop-place.invariant w.in-Some.node (sym c.node_at.ensures ∙ w.in-Some.is))
      | in_default w ↦ subst So (sym (ap (λ v. v.items) w.found-is))
          (placed_nodes-skip cs ps i l old c.loop-place.invariant
          (λ n at. none-some n (sym w.in_default.is ∙ c.node_at.ensures ∙ at)))
    ]

pub returns : goal.returns
returns c =
    let ps = c.args.places.now in
    let all : take c.loop-place.place-index ps ≡ ps = take_all c.loop-place.place-index ps
    (omega (arith, c.loop-place-test.false)) in
    rw all at c.loop-place.invariant
