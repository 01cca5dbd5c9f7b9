use Rattle.std.proofs.Common.{ℕ, List, Some, refl, subst, ◌↔◌, ◌⊎◌, ◌≡◌, ◌++◌}
use Rattle.std.proofs.lemmas.Result.{on_ok_weaker}
use Rattle.hg_changeset.specs.Contents.{Contents}
use Rattle.hg_graph.specs.Graph.{Holds}
use Rattle.hg_graph.specs.Places.{IsAt, IsParentPlace}
use Rattle.hg_graph.proofs.PlaceLemmas.{placed_within}
use Rattle.hg_phases.specs.State.{changesets}
use Rattle.hg_view.proofs.UpheldLemmas.{parents-added, parents-none}
use Rattle.hg_view.proofs.upheld.add_parents.Goals as goal

pub parent_places-parents-requires : goal.parent_places-parents-requires
parent_places-parents-requires c =
    placed_within c.graph-graph.result.now c.args.node c.in-Some.place
    ((c.in-Some.ensures.place c.in-Some.place).1 refl)

pub returns-in_ok-add_at-in-Some-clause-disjoint : goal.returns-in_ok-add_at-in-Some-clause-disjoint
returns-in_ok-add_at-in-Some-clause-disjoint c = on_ok_weaker c.add_at-in-Some.result
    (λ more start. more (c.in_ok-add_at-in-Some.ensures.disjoint start)) c.add_at-in-Some.ensures.disjoint

pub returns-in_ok-add_at-in-Some-clause-ok : goal.returns-in_ok-add_at-in-Some-clause-ok
returns-in_ok-add_at-in-Some-clause-ok c =
    let s = c.args.replica.now in
    let k = c.in-Some.place in
    let upheld = c.args.upheld.now.keys in
    let parents = c.parent_places-parents.result in
    let at : IsAt (changesets s.history) c.args.node k =
    subst (λ (cs : List Contents). IsAt cs c.args.node k) c.graph-graph.ensures.graph
    ((c.in-Some.ensures.place k).1 refl) in
    let are : (j : ℕ) → IsParentPlace (changesets s.history) k j
    ↔ ((parents.first ≡ Some j) ⊎ (parents.second ≡ Some j)) =
    subst (λ (cs : List Contents). (j : ℕ) → IsParentPlace cs k j
    ↔ ((parents.first ≡ Some j) ⊎ (parents.second ≡ Some j))) c.graph-graph.ensures.graph
    c.parent_places-parents.ensures.places in
    on_ok_weaker c.add_at-in-Some.result
    (λ adds. parents-added s c.graph-graph.ensures.valid c.args.node k at parents.first parents.second are
    (upheld ++ c.args.found.now.keys) (upheld ++ c.add_at.new.found.keys) (upheld ++ c.add_at-in-Some.new.found.keys)
    c.in_ok-add_at-in-Some.ensures.ok adds) c.add_at-in-Some.ensures.ok

pub returns-in-None-clause-ok : goal.returns-in-None-clause-ok
returns-in-None-clause-ok c =
    parents-none c.args.replica.now c.graph-graph.ensures.valid c.args.node
    (subst (λ (cs : List Contents). ¬ (Holds cs c.args.node)) c.graph-graph.ensures.graph c.in-None.ensures.place)
    (c.args.upheld.now.keys ++ c.args.found.now.keys)
