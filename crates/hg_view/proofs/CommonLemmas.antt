-- What two replicas have in common, where no changeset of the one collides with one of the other.
use Rattle.std.proofs.Common.{◌≡◌, ◌∙◌, ◌↔◌, ◌<◌, ℕ, List, Contains, length, refl, sym, subst}
use Rattle.std.proofs.lemmas.Option.{same_Some}
use Rattle.hg_changeset.specs.declared.node.Node.{Node}
use Rattle.hg_changeset.specs.Contents.{Contents}
use Rattle.hg_changeset.specs.Changeset.{node_of}
use Rattle.hg_graph.specs.Graph.{Holds, IsParent}
use Rattle.hg_graph.proofs.GraphLemmas.{Contains-from_place, Holds-changeset}
use Rattle.hg_graph.proofs.PlaceLemmas.{Holds-reaching, IsAt-from, placed_within}
use Rattle.hg_phases.specs.State.{changesets}
use Rattle.hg_history.specs.Content.Leads.{itself, below}
use Rattle.hg_history.proofs.ContentLemmas.{content-changeset, content-node, node_in_content, reach_from_leads}
use Rattle.hg_replica.specs.State.{ReplicaState, IsValid}
use Rattle.hg_replica.specs.Content.{content_of}
use Rattle.hg_replica.proofs.ContentLemmas.{content-valid}
use Rattle.hg_view.specs.Common.{AreFree, IsCommonAt}
use Rattle.hg_view.specs.Descent.{IsClosedUnderParents}
use Rattle.hg_view.specs.Kept.{KeptValue}
use Rattle.hg_view.specs.Pins.{IsServedUnder}
use Rattle.hg_view.specs.HeadPlaces.{IsServedAt}
use Rattle.hg_view.proofs.PinLemmas.{served_under-above}
use Rattle.hg_view.proofs.ViewHeadLemmas.{served-closed, shared-closed}

pub served_held : (s : ReplicaState) (pins : List Node) → IsValid s → (n : Node)
    → IsServedUnder (content_of s) pins n → Holds (changesets s.history) n
served_held s pins valid n served =
    let v = served.0 in
    let held = node_in_content s.history valid.graph v.0 v.1.0 in
    Holds-reaching (changesets s.history) (reach_from_leads s.history valid.graph n v.0 held v.2)

module _ (ours theirs : ReplicaState) (pins : List Node) (valid : IsValid theirs)
    (free : AreFree (changesets ours.history) (changesets theirs.history)) where
  -- parents of what is held here and served there are served there
  pub parent_served : (c : Contents) (p : Node) → Contains (changesets ours.history) c → IsParent c p
      → IsServedUnder (content_of theirs) pins (node_of c) → IsServedUnder (content_of theirs) pins p
  parent_served c p at is served =
      let held = served_held theirs pins valid (node_of c) served in
      let d = Holds-changeset (changesets theirs.history) (node_of c) held in
      let h = content-changeset theirs.history valid.graph (node_of c) d.0 d.1 d.2 in
      let same : c ≡ h.0.changeset = free c at d.0 d.1 (sym d.2) ∙ sym h.2 in
      served_under-above (content_of theirs) pins p (node_of c) (content-valid theirs valid) served
      (below itself h.1 (subst (λ e. IsParent e p) same is))

-- what is in common has its parents in common
pub common-closed : (s : ReplicaState) (other : KeptValue) → IsValid s → IsValid other.replica
    → AreFree (changesets s.history) (changesets other.replica.history)
    → IsClosedUnderParents (changesets s.history) (IsCommonAt s other)
common-closed s other valid their_valid free j k parent so =
    let cs = changesets s.history in
    let c = parent.0 in
    let is : so.0 ≡ node_of c = same_Some so.0 (node_of c) (sym so.1 ∙ IsAt-from cs j c (node_of c) parent.2 refl) in
    let up = shared-closed s valid j k parent (so.0, so.1, so.2) in
    let Served = IsServedUnder (content_of other.replica) other.pins in
    let served = parent_served s other.replica other.pins their_valid free c parent.1
    (Contains-from_place cs j c parent.2) parent.3 (subst Served is so.3) in (
      up.0,
      up.1,
      up.2,
      subst Served (same_Some parent.1 up.0 (sym parent.4 ∙ up.1)) served,
    )

-- what is in common stands at a place of the graph
pub common_within : (s : ReplicaState) (other : KeptValue) (k : ℕ) → IsCommonAt s other k
    → k < length (changesets s.history)
common_within s other k so = placed_within (changesets s.history) so.0 k so.1

module _ (kept : KeptValue) (valid : IsValid kept.replica) where
  -- what a replica has in common with itself is what it serves
  pub own-common : (k : ℕ) → IsCommonAt kept.replica kept k ↔ IsServedAt kept.replica kept.pins k
  own-common k = (
    λ so. (so.0, so.1, so.3),
    λ so. (
      so.0,
      so.1,
      (content-node kept.replica.history valid.graph so.0 (served_held kept.replica kept.pins valid so.0 so.2), so.2.1),
      so.2,
    ),
  )

  pub own-closed : IsClosedUnderParents (changesets kept.replica.history) (IsCommonAt kept.replica kept)
  own-closed j k parent so =
      (own-common k).1 (served-closed kept.replica valid kept.pins j k parent ((own-common j).0 so))
