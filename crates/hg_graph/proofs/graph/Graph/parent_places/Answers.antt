use Rattle.std.proofs.Common.{◌≡◌, slice_get, Some, sym, subst, IfSome}
use Rattle.hg_changeset.specs.Contents.{Contents}
use Rattle.hg_graph.specs.Graph.{IsGraph}
use Rattle.hg_graph.specs.Places.{ArePlacesOf}
use Rattle.hg_graph.proofs.PlaceLemmas.{kept_places, parent_places_are}
use Rattle.hg_graph.proofs.graph.Graph.parent_places.Goals as goal

kept : (c : goal.After-parents) → IsGraph c.args.self.now
    × ((d : Contents) × (slice_get c.args.self.now c.args.place ≡ Some d)
    × ArePlacesOf c.args.self.now d c.parents.result)
kept c =
    let graph = rw c.self.view_is at c.self.invariant.1 in
    let places = rw c.self.view_is at c.self.invariant.2 in (
      graph,
      kept_places c.args.self.now graph c.self.inside.links places c.args.place c.parents.result
          c.parents.ensures,
    )

pub returns-clause-places : goal.returns-clause-places
returns-clause-places c =
    let k = kept c in
    parent_places_are c.args.self.now k.0 c.args.place k.1.0 c.parents.result k.1.1 k.1.2

pub returns-clause-in_order : goal.returns-clause-in_order
returns-clause-in_order c =
    let k = kept c in
    subst (λ o. IfSome o (λ d. ArePlacesOf c.args.self.now d c.parents.result)) (sym k.1.1) k.1.2
