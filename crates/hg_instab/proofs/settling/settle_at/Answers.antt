use Rattle.std.proofs.Common.{◌≡◌, List, Some, OnOk, slice_get, sym, subst, ◌∙◌}
use Rattle.std.proofs.lemmas.Result.{on_ok_weaker}
use Rattle.hg_changeset.specs.Contents.{Contents}
use Rattle.hg_graph.specs.Graph.{nodes}
use Rattle.hg_graph.specs.Places.{IsAt}
use Rattle.hg_graph.proofs.PlaceLemmas.{placed_within}
use Rattle.hg_graph.specs.Waiting.{Widens}
use Rattle.hg_phases.specs.State.{changesets}
use Rattle.hg_replica.specs.Content.{content_of}
use Rattle.hg_instab.specs.declared.waiting.Beside.{Beside}
use Rattle.hg_instab.specs.Settling.{IsBeside, IsSoBy, beside_of}
use Rattle.hg_instab.proofs.SettlingLemmas.{settles-same, settles-turned, local, never-beside}
use Rattle.hg_instab.proofs.settling.settle_at.Goals as goal

pub returns-then-is_so_now-has_now-clause-settled : goal.returns-then-is_so_now-has_now-clause-settled
returns-then-is_so_now-has_now-clause-settled c =
    let s = c.args.replica.now in
    let node = c.in-Some.node in
    let at : IsAt (changesets s.history) node c.args.place =
    subst (λ (cs : List Contents). slice_get (nodes cs) c.args.place ≡ Some node) c.graph-graph.ensures.graph
    (sym c.node_at.ensures ∙ c.in-Some.is) in
    settles-same (changesets s.history) (beside_of c.args.kind) (IsSoBy c.args.kind (content_of s)) c.args.set.now.keys
    c.args.place c.args.turned.now.keys c.args.waiting.now node at c.is_so_now.result c.has_now.result
    c.is_so_now.ensures c.has_now.ensures c.if-is_so_now-has_now.true

pub wait_beside_place-requires : goal.wait_beside_place-requires
wait_beside_place-requires c =
    placed_within c.graph-graph.result.now c.in-Some.node c.args.place (sym c.node_at.ensures ∙ c.in-Some.is)

pub returns-in_ok-turn-in-Some-clause-settled : goal.returns-in_ok-turn-in-Some-clause-settled
returns-in_ok-turn-in-Some-clause-settled c =
    let s = c.args.replica.now in
    let kind = c.args.kind in
    let v = c.graph-graph.ensures.valid in
    let node = c.in-Some.node in
    let place = c.args.place in
    let waiting = c.args.waiting.now in
    let waiting_now = c.wait_beside_place.new.waiting in
    let at : IsAt (changesets s.history) node place =
    subst (λ (cs : List Contents). slice_get (nodes cs) place ≡ Some node) c.graph-graph.ensures.graph
    (sym c.node_at.ensures ∙ c.in-Some.is) in
    on_ok_weaker c.wait_beside_place.result
    (settles-turned (changesets s.history) (beside_of kind) (IsSoBy kind (content_of s)) c.args.set.now.keys place
    c.args.turned.now.keys waiting node at c.is_so_now.result c.has_now.result c.is_so_now.ensures
    c.has_now.ensures v.graph (local kind s v) (never-beside kind (changesets s.history) v.graph place)
    c.if-is_so_now-has_now.false c.turn.new.turned.keys waiting_now c.in_ok-turn-in-Some.ensures)
    (subst (λ (cs : List Contents). OnOk c.wait_beside_place.result (Widens (IsBeside (beside_of kind) cs place) waiting
    waiting_now)) c.graph-graph.ensures.graph (subst (λ (b : Beside). OnOk c.wait_beside_place.result
    (Widens (IsBeside b c.graph-graph.result.now place) waiting waiting_now)) c.asked_beside.ensures
    c.wait_beside_place.ensures))
