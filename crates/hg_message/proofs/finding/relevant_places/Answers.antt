use Rattle.std.proofs.Common.{List, Contains, ◌↔◌, subst}
use Rattle.std.proofs.lemmas.Result.{IfOk-weaker}
use Rattle.hg_changeset.specs.declared.node.Node.{Node}
use Rattle.hg_changeset.specs.Contents.{Contents}
use Rattle.hg_graph.specs.Graph.{Selects}
use Rattle.hg_graph.specs.Marks.{IsMarkedNode}
use Rattle.hg_obsstore.specs.Markers.{ArePlaces}
use Rattle.hg_phases.specs.State.{changesets}
use Rattle.hg_relevant.specs.Relevant.{IsRelevant}
use Rattle.hg_replica.specs.Content.{content_of}
use Rattle.hg_instab.proofs.SetLemmas.{along}
use Rattle.hg_view.specs.Pins.{IsServedUnder}
use Rattle.hg_view.proofs.ViewLemmas.{marked-are}
use Rattle.hg_message.proofs.OfferLemmas.{places-offered}
use Rattle.hg_message.proofs.finding.relevant_places.Goals as goal

pub returns : goal.returns
returns c =
    let s = c.args.replica.now in
    let cs = changesets s.history in
    let nodes = c.in_ok-nodes.nodes.items in
    let select = subst (λ (ds : List Contents). Selects ds (IsMarkedNode ds c.args.served.now) nodes)
    c.graph.ensures.graph c.in_ok-nodes.ensures in
    IfOk-weaker c.relevant.result _ _
    (λ places all pins served.
    let are : (n : Node) → Contains nodes n ↔ IsServedUnder (content_of s) pins n =
    λ n. along (marked-are cs c.args.served.now nodes select n) (served.exact n) in
    places-offered s pins nodes c.store.result.now places.items (λ n. (are n).0) (λ n one touched. (are n).1 one)
    c.store.ensures
    (subst (λ (ns : List Node). ArePlaces (IsRelevant (Contains c.store.result.now) (Contains ns))
    c.store.result.now places.items) c.deref.ensures.value all))
    c.relevant.ensures
