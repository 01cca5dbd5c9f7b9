use Rattle.std.proofs.Common.{◌≡◌, sym, subst}
use Rattle.hg_graph.specs.Graph.{nodes, Holds}
use Rattle.hg_graph.specs.Places.{IsAt, IsOnlyAt}
use Rattle.hg_graph.proofs.GraphLemmas.{Contains-from_place}
use Rattle.hg_graph.proofs.PlaceLemmas.{placed_within}
use Rattle.hg_phases.specs.State.{changesets}
use Rattle.hg_view.specs.HeadPlaces.{IsAmong}
use Rattle.hg_view.proofs.FlagLemmas.{recomputed-none, recomputed-alike}
use Rattle.hg_view.proofs.head_updates.recompute_node.Goals as goal

pub recompute-requires-clause-within : goal.recompute-requires-clause-within
recompute-requires-clause-within c =
    let cs = changesets c.args.replica.now.history in
    let place = c.in-Some.place in
    let only = subst (λ ds. IsOnlyAt ds c.args.node place) c.graph.ensures.graph c.in-Some.ensures.place in
    placed_within cs c.args.node place ((only place).1 (λ i. place))

pub returns-in-Some : goal.returns-in-Some
returns-in-Some c =
    let t = c.args.replica.now.history in
    let n = c.args.node in
    let place = c.in-Some.place in
    let only = subst (λ ds. IsOnlyAt ds n place) c.graph.ensures.graph c.in-Some.ensures.place in
    recomputed-alike (IsAmong c.args.among t) (λ k. place ≡ k) (IsAt (changesets t) n) c.args.heads.now
    c.recompute.new.heads
    c.recompute.ensures (λ k. ((λ at. sym ((only k).0 at)), (λ e. (only k).1 (sym e))))

pub returns-in-None : goal.returns-in-None
returns-in-None c =
    let t = c.args.replica.now.history in
    let n = c.args.node in
    let out = subst (λ ds. ¬ (Holds ds n)) c.graph.ensures.graph c.in-None.ensures.place in
    recomputed-none (IsAmong c.args.among t) (IsAt (changesets t) n) c.args.heads.now
    (λ k at. out (Contains-from_place (nodes (changesets t)) k n at))
