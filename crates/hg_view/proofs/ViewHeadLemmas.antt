-- What isn't secret, and what is served, place by place.
use Rattle.std.proofs.Common.{◌↔◌, ◌⊎◌, ℕ, List, Contains, inl, inr, refl, sym, subst, ◌∙◌}
use Rattle.std.proofs.lemmas.Option.{same_Some}
use Rattle.hg_changeset.specs.declared.node.Node.{Node}
use Rattle.hg_changeset.specs.Contents.{Contents}
use Rattle.hg_graph.specs.Graph.{IsParent}
use Rattle.hg_graph.specs.Places.{IsAt, IsParentPlace}
use Rattle.hg_graph.proofs.GraphLemmas.{Contains-from_place}
use Rattle.hg_graph.proofs.PlaceLemmas.{IsAt-from}
use Rattle.hg_phases.specs.State.{changesets}
use Rattle.hg_history.specs.Content.{Leads}
use Rattle.hg_history.specs.Content.Leads.{itself, below}
use Rattle.hg_history.proofs.ContentLemmas.{content-valid, content-changeset, content-node, node_in_content}
use Rattle.hg_history.proofs.FirstFaultLemmas.{held_or_not}
use Rattle.hg_replica.specs.State.{ReplicaState, IsValid}
use Rattle.hg_replica.specs.Content.{content_of}
use Rattle.hg_view.specs.Descent.{IsClosedUnderParents}
use Rattle.hg_instab.specs.Instabilities.{AreInstabilities, InstabilitySets}
use Rattle.hg_instab.proofs.TurnedLemmas.{contains-or}
use Rattle.hg_view.specs.Pins.{IsServedUnder}
use Rattle.hg_view.specs.Share.{IsShared}
use Rattle.hg_view.specs.Upheld.{AreUpheld}
use Rattle.hg_view.specs.HeadPlaces.{IsServedAt, IsHeadAmong}
use Rattle.hg_view.proofs.UpheldLemmas.{visible-upheld}
use Rattle.hg_view.proofs.PinLemmas.{served_under-above}
use Rattle.hg_view.proofs.ShareLemmas.{shared-above, shared-or}

-- where it is so of the same places, these have the same heads
pub same-heads : (cs : List Contents) (P Q : ℕ → Type 0) → ((k : ℕ) → P k ↔ Q k) → (k : ℕ)
    → IsHeadAmong cs P k ↔ IsHeadAmong cs Q k
same-heads cs P Q same k = (
  λ head. ((same k).0 head.0, λ j parent q. head.1 j parent ((same j).1 q)),
  λ head. ((same k).1 head.0, λ j parent p. head.1 j parent ((same j).0 p)),
)

module _ (s : ReplicaState) (valid : IsValid s) where
  -- the changeset at the place of a parent is led to
  leads-parent : (j k : ℕ) → IsParentPlace (changesets s.history) j k → (n : Node) → IsAt (changesets s.history) n j
      → (p : Node) × IsAt (changesets s.history) p k × Leads (content_of s).0 p n
  leads-parent j k parent n at =
      let c = parent.0 in
      let named = IsAt-from (changesets s.history) j c n parent.2 in
      let x = content-changeset s.history valid.graph n c (Contains-from_place (changesets s.history) j c parent.2)
      (same_Some _ n (sym (IsAt-from (changesets s.history) j c _ parent.2 refl) ∙ at)) in
      (parent.1, parent.4, below itself x.1 (subst (λ (d : Contents). IsParent d parent.1) (sym x.2) parent.3))

  pub shared-closed : IsClosedUnderParents (changesets s.history)
      (λ k. (n : Node) × IsAt (changesets s.history) n k × IsShared (content_of s) n)
  shared-closed j k parent so =
      let p = leads-parent j k parent so.0 so.1 in
      (p.0, p.1, shared-above (content_of s) p.0 so.0 (content-valid s.history valid) so.2 p.2)

  pub served-closed : (pins : List Node) → IsClosedUnderParents (changesets s.history) (IsServedAt s pins)
  served-closed pins j k parent so =
      let p = leads-parent j k parent so.0 so.1 in
      (p.0, p.1, served_under-above (content_of s) pins p.0 so.0 (content-valid s.history valid) so.2 p.2)

  module _ (pins upheld : List Node) (ups : AreUpheld (content_of s) pins upheld) (sets : InstabilitySets)
      (are : AreInstabilities (content_of s) sets) where
    abbrev IsShownNow : Node → Type 0
    IsShownNow n = ¬ (Contains sets.extinct n) ⊎ Contains upheld n

    shown-or : (n : Node) → IsShownNow n ⊎ (¬ (IsShownNow n))
    shown-or n = elim (contains-or upheld n) [
      | inl up ↦ inl (inr up)
      | inr none ↦ elim (contains-or sets.extinct n) [
        | inl out ↦ inr (λ h. elim h [ inl other ↦ other out | inr up ↦ none up ])
        | inr other ↦ inl (inl other)
      ]
    ]

    -- what isn't secret, and isn't extinct or is upheld, is served
    pub served-shown : (n : Node) → (IsShared (content_of s) n × IsShownNow n) ↔ IsServedUnder (content_of s) pins n
    served-shown n =
        let seen = visible-upheld s valid pins upheld ups sets are n in (
          λ h. (seen.0 (node_in_content s.history valid.graph n h.0.0, h.1), h.0.1),
          λ so.
              let there = seen.1 so.0 in
              ((content-node s.history valid.graph n there.0, so.1), there.1),
        )

    -- of each id it can be told whether it is served
    pub served-or : (n : Node) → IsServedUnder (content_of s) pins n ⊎ (¬ (IsServedUnder (content_of s) pins n))
    served-or n = elim (held_or_not (changesets s.history) n) [
      | inr none ↦ inr (λ so. none ((visible-upheld s valid pins upheld ups sets are n).1 so.0).0)
      | inl held ↦ elim (shared-or (content_of s) n (content-node s.history valid.graph n held)) [
        | inr secret ↦ inr (λ so. secret ((served-shown n).1 so).0)
        | inl shared ↦ elim (shown-or n) [
          | inl shown ↦ inl ((served-shown n).0 (shared, shown))
          | inr not ↦ inr (λ so. not ((served-shown n).1 so).1)
        ]
      ]
    ]
