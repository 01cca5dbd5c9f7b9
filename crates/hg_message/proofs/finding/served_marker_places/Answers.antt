use Rattle.std.proofs.Common.{◌≡◌, ◌↔◌, List, Contains, subst, ap, ◌∙◌}
use Rattle.std.proofs.lemmas.Result.{IfOk-weaker}
use Rattle.hg_changeset.specs.declared.node.Node.{Node}
use Rattle.hg_marker.specs.Fields.{Fields}
use Rattle.hg_replica.specs.State.{ReplicaState}
use Rattle.hg_obsstore.specs.Markers.{ArePlaces, IsNamed}
use Rattle.hg_relevant.specs.Relevant.{IsRelevant}
use Rattle.hg_message.proofs.OfferLemmas.{places-offered}
use Rattle.hg_message.proofs.finding.served_marker_places.Goals as goal

pub returns : goal.returns
returns c =
    let s = c.args.kept.now.replica in
    let pins = c.args.kept.now.pins in
    let nodes = c.in_ok-nodes.nodes.items in
    let store : c.store-store.result.now ≡ s.markers =
    c.store-store.ensures ∙ ap (λ (r : ReplicaState). r.markers) c.replica.ensures.replica in
    let named : (n : Node) → Contains c.named.result.now n ↔ IsNamed s.markers n =
    subst (λ (ms : List Fields). (n : Node) → Contains c.named.result.now n ↔ IsNamed ms n) store
    c.named.ensures.exact in
    let told = c.in_ok-nodes.ensures in
    IfOk-weaker c.relevant.result _ _
    (λ places all. places-offered s pins nodes c.store-store.result.now places.items
    (λ n h. ((told n).0 h).1) (λ n one is. (told n).1 ((named n).1 is, one)) store
    (subst (λ (ns : List Node). ArePlaces (IsRelevant (Contains c.store-store.result.now) (Contains ns))
    c.store-store.result.now places.items) c.deref.ensures.value all))
    c.relevant.ensures
