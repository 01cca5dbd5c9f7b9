use Rattle.std.proofs.Common.{◌≡◌, subst, sym, ◌∙◌, length, false, true≢false, refl}
use Rattle.std.proofs.Common.{Option, None, Some, is_some}
use Rattle.std.proofs.lemmas.Map.Made.{is_some-lookup}
use Rattle.indexmap.specs.IndexMap.{keys, values, get}
use Rattle.hg_changeset.specs.Node.{node_eq}
use Rattle.hg_graph.specs.Graph.{Holds}
use Rattle.hg_graph.proofs.GraphLemmas.{absent_key}
use Rattle.hg_graph.proofs.PutLemmas.{graph_put, new_put}
use Rattle.hg_graph.proofs.LinkLemmas.{linkable}
use Rattle.hg_graph.proofs.graph.Graph.push.Goals as goal

pub push-requires : goal.push-requires
push-requires c =
    let graph = rw c.self.view_is at c.self.invariant.1 in
    let places = rw c.self.view_is at c.self.invariant.2 in
    linkable c.args.self.now graph c.args.changeset c.args.parents (length c.self.inside.links) places.len
    c.node-node.ensures.changeset c.requires.places

none_told : {A : Type 0} (o : Option A) → is_some o ≡ false → o ≡ None
none_told None e = refl
none_told (Some a) e = absurd (true≢false e)

-- the id isn't found
none : (c : goal.Joined-insert-2) → get node_eq c.self.inside.changesets c.node-node.result ≡ None
none c =
    let m = c.self.inside.changesets in
    let n = c.node-node.result in
    let is_new = rw (← c.self.view_is) at c.requires.new in
    let out = subst (λ k. ¬ (Holds (values m) k)) (sym c.node-node.ensures.id) is_new.1 in
    none_told (get node_eq m n)
    (is_some-lookup (node_eq n) m.entries ∙ absent_key (values m) n (keys m) c.self.invariant.0 out)

pub invariant_of-self-in-Ok : goal.invariant_of-self-in-Ok
invariant_of-self-in-Ok c =
    graph_put c.self.inside.changesets c.node-node.result c.self.invariant.0 c.insert.new.self.entries c.args.changeset
    (none c) c.in-Ok.ensures.entries c.self.inside.links c.push.new.self c.args.parents c.self.invariant.1
    c.self.invariant.2 c.node-node.ensures.id c.node-node.ensures.changeset
    (rw (← c.self.view_is) at c.requires.new).0 (rw (← c.self.view_is) at c.requires.places)
    c.in_ok-push.ensures.pushed

pub returns-in-Ok : goal.returns-in-Ok
returns-in-Ok c = record {
  pushed = (new_put c.self.inside.changesets c.node-node.result c.self.invariant.0 c.insert.new.self.entries
      c.args.changeset (none c) c.in-Ok.ensures.entries c.node-node.ensures.id c.args.self.now c.self.view_is
      c.requires.new.0).2;
  unchanged = tt;
}
