use Rattle.std.proofs.Common.{◌≡◌, ◌↔◌, ◌∙◌, ℕ, List, Contains, sym, ap, subst}
use Rattle.std.proofs.lemmas.Result.{IfOk-weaker}
use Rattle.hg_changeset.specs.Contents.{Contents}
use Rattle.hg_graph.specs.Places.{IsAt}
use Rattle.hg_phases.specs.State.{changesets}
use Rattle.hg_replica.specs.State.{ReplicaState}
use Rattle.hg_view.specs.Common.{IsCommonAt}
use Rattle.hg_view.specs.HeadPlaces.{IsHeadAmong}
use Rattle.hg_discovery.specs.declared.finding.PlacedNode.{PlacedNode}
use Rattle.hg_discovery.specs.Search.{nodes_of}
use Rattle.hg_discovery.specs.Between.{AreHeadsInCommon}
use Rattle.hg_discovery.proofs.CommonLemmas.{walked_in_common}
use Rattle.hg_discovery.proofs.heads.heads_by_walk.Goals as goal

pub returns : goal.returns
returns c =
    let ours = c.args.asker.now.replica in
    let other = c.args.other.now in
    let cs = changesets ours.history in
    let here : c.graph.result.now ≡ cs =
    c.graph.ensures.graph ∙ ap (λ (s : ReplicaState). changesets s.history) c.replica-2.ensures.replica in
    let places = c.deref.result.now in
    let are_heads : (k : ℕ) → Contains places k ↔ IsHeadAmong cs (IsCommonAt ours other) k =
    subst (λ (ks : List ℕ). (k : ℕ) → Contains ks k ↔ IsHeadAmong cs (IsCommonAt ours other) k)
    (sym c.deref.ensures.value)
    c.in_ok-places.ensures.exact in
    let found : (x : PlacedNode) → Contains c.in_ok-found.found.items x ↔ (Contains places x.place
    × IsAt cs x.node x.place) =
    subst (λ (ds : List Contents). (x : PlacedNode) → Contains c.in_ok-found.found.items x ↔ (Contains places x.place
    × IsAt ds x.node x.place)) here c.in_ok-found.ensures in
    let new = c.ascending.result.items in
    let heads = walked_in_common ours other c.replica-2.ensures.valid c.tells_what_is_served.ensures
    c.common_heads.ensures.closed places are_heads new c.ascending.ensures.sorted
    (λ x. (
      λ h. (found x).0 ((c.ascending.ensures.same x).0 h),
      λ h. (c.ascending.ensures.same x).1 ((found x).1 h),
    )) in
    IfOk-weaker c.nodes.result _ _ (λ ns named. subst (AreHeadsInCommon ours other.replica other.pins)
    (sym (named ∙ ap nodes_of c.deref-2.ensures.value)) heads) c.nodes.ensures
