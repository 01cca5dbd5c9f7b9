use Rattle.std.proofs.Common.{◌≡◌, ℕ, sym, subst}
use Rattle.hg_graph.specs.Graph.{nodes, Holds}
use Rattle.hg_graph.specs.Places.{IsAt, IsOnlyAt}
use Rattle.hg_graph.proofs.GraphLemmas.{Contains-from_place}
use Rattle.hg_graph.proofs.PlaceLemmas.{placed_within}
use Rattle.hg_phases.specs.State.{changesets}
use Rattle.hg_view.specs.Flags.{IsParentOfOne}
use Rattle.hg_view.specs.HeadPlaces.{IsAmong}
use Rattle.hg_view.proofs.FlagLemmas.{taken-none, taken-alike, parents-none, parents-alike}
use Rattle.hg_view.proofs.head_updates.take_out_parents_of.Goals as goal

pub take_out_parents-requires-clause-within : goal.take_out_parents-requires-clause-within
take_out_parents-requires-clause-within c =
    let place = c.in-Some.place in
    let only = subst (λ ds. IsOnlyAt ds c.args.node place) c.graph.ensures.graph c.in-Some.ensures.place in
    placed_within _ _ _ ((only place).1 (λ i. place))

pub returns-in-Some : goal.returns-in-Some
returns-in-Some c =
    let t = c.args.replica.now.history in
    let n = c.args.node in
    let place = c.in-Some.place in
    let Q : ℕ → Type 0 = IsAmong c.args.among t in
    let only = subst (λ ds. IsOnlyAt ds n place) c.graph.ensures.graph c.in-Some.ensures.place in
    taken-alike _ _ _ _ c.take_out_parents.ensures (parents-alike _ _ _ _
    (λ k q. ((λ at. sym ((only k).0 at)), (λ e. (only k).1 (sym e)))))

pub returns-in-None : goal.returns-in-None
returns-in-None c =
    let t = c.args.replica.now.history in
    let cs = changesets t in
    let n = c.args.node in
    let Q : ℕ → Type 0 = IsAmong c.args.among t in
    let out = subst (λ ds. ¬ (Holds ds n)) c.graph.ensures.graph c.in-None.ensures.place in
    taken-none _ _ (parents-none _ _ _ (λ k at. out (Contains-from_place (nodes cs) k n at)))
