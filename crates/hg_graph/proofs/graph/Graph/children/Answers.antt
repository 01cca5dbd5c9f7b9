use Rattle.hg_graph.proofs.LinkLemmas.{child_places_are}
use Rattle.hg_graph.proofs.graph.Graph.children.Goals as goal

pub returns-clause-exact : goal.returns-clause-exact
returns-clause-exact c k =
    let graph = rw c.self.view_is at c.self.invariant.1 in
    let places = rw c.self.view_is at c.self.invariant.2 in
    let same = child_places_are c.args.self.now graph c.self.inside.links places c.args.place k in
    (λ h. same.0 ((c.children.ensures.exact k).0 h), λ h. (c.children.ensures.exact k).1 (same.1 h))
