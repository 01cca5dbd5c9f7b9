use Rattle.std.proofs.Common.{rules, ◌≡◌, subst, Some, length, Contains}
use Rattle.indexmap.specs.IndexMap.{get}
use Rattle.hg_changeset.specs.Node.{node_eq}
use Rattle.hg_changeset.specs.Changeset.{node_of}
use Rattle.hg_graph.proofs.PutLemmas.{is_new, found_held, graph_put, new_put, met}
use Rattle.hg_graph.proofs.LinkLemmas.{linkable}
use Rattle.hg_graph.proofs.graph.Graph.add_copy.Goals as goal

pub returns-in_err-held-clause-memory : goal.returns-in_err-held-clause-memory
returns-in_err-held-clause-memory c memory =
    is_new c.self.inside.changesets c.node.result c.self.invariant.0 c.args.changeset.now c.node.ensures.id
    c.in_err-held.ensures.absent c.args.self.now c.self.view_is c.in-Ok.ensures.held.0

pub returns-in_err-copy-in-Vacant-clause-memory : goal.returns-in_err-copy-in-Vacant-clause-memory
returns-in_err-copy-in-Vacant-clause-memory c memory =
    is_new c.self.inside.changesets c.node.result c.self.invariant.0 c.args.changeset.now c.node.ensures.id
    (search rules) c.args.self.now c.self.view_is c.in-Ok.ensures.held.0

pub push-requires : goal.push-requires
push-requires c =
    let graph = rw c.self.view_is at c.self.invariant.1 in
    let places = rw c.self.view_is at c.self.invariant.2 in
    linkable c.args.self.now graph c.args.changeset.now c.in-Ok.parents (length c.self.inside.links) places.len
    c.node.ensures.changeset c.in-Ok.ensures.held.1

pub returns-in_err-push-in-Vacant-clause-memory : goal.returns-in_err-push-in-Vacant-clause-memory
returns-in_err-push-in-Vacant-clause-memory c memory =
    is_new c.self.inside.changesets c.node.result c.self.invariant.0 c.args.changeset.now c.node.ensures.id
    (search rules) c.args.self.now c.self.view_is c.in-Ok.ensures.held.0

pub invariant_of-self-in-Vacant : goal.invariant_of-self-in-Vacant
invariant_of-self-in-Vacant c =
    graph_put c.self.inside.changesets c.node.result c.self.invariant.0 _ c.args.changeset.now (search rules)
    (search rules) c.self.inside.links c.push.new.self c.in-Ok.parents c.self.invariant.1 c.self.invariant.2
    c.node.ensures.id c.node.ensures.changeset (rw (← c.self.view_is) at c.in-Ok.ensures.held.0)
    (rw (← c.self.view_is) at c.in-Ok.ensures.held.1) c.in_ok-push-in-Vacant.ensures.pushed

pub returns-in-Occupied-clause-answer : goal.returns-in-Occupied-clause-answer
returns-in-Occupied-clause-answer c =
    let found : get node_eq c.self.inside.changesets c.node.result ≡ Some c.get.result.now = search rules in
    met c.args.self.now _ c.args.changeset.now c.get.result.now c.known_or_collision.result c.known_or_collision.ensures
    (subst (λ n. Contains c.args.self.now c.get.result.now × (node_of c.get.result.now ≡ n)) c.node.ensures.id
    (rw (← c.self.view_is)
    (found_held c.self.inside.changesets c.node.result c.self.invariant.0 c.get.result.now found)))
    c.in-Ok.ensures.held.0 (search rules)

pub returns-in_ok-push-in-Vacant-clause-answer : goal.returns-in_ok-push-in-Vacant-clause-answer
returns-in_ok-push-in-Vacant-clause-answer c =
    new_put c.self.inside.changesets c.node.result c.self.invariant.0 _ c.args.changeset.now (search rules)
    (search rules) c.node.ensures.id c.args.self.now c.self.view_is c.in-Ok.ensures.held.0
