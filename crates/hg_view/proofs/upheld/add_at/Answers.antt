use Rattle.std.proofs.Common.{◌≡◌, ◌++◌, List, Option, ℕ, Some, slice_get, sym, subst, ◌∙◌}
use Rattle.std.proofs.lemmas.Result.{on_ok_weaker}
use Rattle.hg_changeset.specs.Contents.{Contents}
use Rattle.hg_graph.specs.Graph.{nodes}
use Rattle.hg_graph.specs.Places.{IsAt}
use Rattle.hg_phases.specs.State.{changesets}
use Rattle.hg_instab.specs.Walk.{Adds}
use Rattle.hg_view.proofs.UpheldLemmas.{IsMutableAt, adds-at}
use Rattle.hg_view.proofs.upheld.add_at.Goals as goal

pub returns-in-Some-node_at-clause-ok : goal.returns-in-Some-node_at-clause-ok
returns-in-Some-node_at-clause-ok c =
    let s = c.args.replica.now in
    let k = c.in-Some.place in
    let node = c.in-Some-node_at.node in
    let old = c.args.upheld.now.keys ++ c.args.found.now.keys in
    let new = c.args.upheld.now.keys ++ c.add_mutable.new.found.keys in
    let at : IsAt (changesets s.history) node k =
    subst (λ (cs : List Contents). slice_get (nodes cs) k ≡ Some node) c.graph.ensures.graph
    (sym c.node_at.ensures ∙ c.in-Some-node_at.is) in
    on_ok_weaker c.add_mutable.result
    (λ adds. subst (λ (o : Option ℕ). Adds (IsMutableAt s o) old new) (sym c.in-Some.is)
    (adds-at s old new k node at adds)) c.add_mutable.ensures.ok
