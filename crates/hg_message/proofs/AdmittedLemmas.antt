-- Where the part of an offer is admitted.
use Rattle.std.proofs.Common.{◌≡◌, ℕ, List, [], ◌++◌, take, slice_get, Option, Some, None, Contains, ◌⊎◌, inl, inr}
use Rattle.std.proofs.Common.{refl, sym, ap, subst, ◌∙◌}
use Rattle.std.proofs.lemmas.Option.{none-some, same_Some}
use Rattle.std.proofs.lemmas.List.Elements.{Contains-append_cases}
use Rattle.hg_changeset.specs.declared.node.Node.{Node}
use Rattle.hg_changeset.specs.Contents.{Contents}
use Rattle.hg_changeset.specs.Changeset.{node_of, IsChangeset}
use Rattle.hg_changeset.proofs.ListLemmas.{Contains-none, Contains-map_from}
use Rattle.hg_graph.specs.Graph.{IsParent}
use Rattle.hg_graph.proofs.GraphLemmas.{Contains-from_place}
use Rattle.hg_phases.specs.declared.phase.Phase.{Phase}
use Rattle.hg_phases.specs.declared.phase.Phase.TheVariants.{Draft}
use Rattle.hg_phases.specs.State.{Held, changesets, state_of}
use Rattle.hg_history.specs.Content.{IsHeld, IsHeldAs, IsHeldWith}
use Rattle.hg_history.specs.Content.Leads.{itself, below}
use Rattle.hg_history.proofs.ContentLemmas.{content-changeset}
use Rattle.hg_obsstore.proofs.IndexLemmas.{Contains-take}
use Rattle.hg_replica.specs.State.{ReplicaState, IsValid}
use Rattle.hg_replica.specs.Content.{Content, content_of, IsValidContent, ContentAdmits}
use Rattle.hg_replica.proofs.ContentLemmas.{content-valid}
use Rattle.hg_message.specs.Value.{MessageValue}
use Rattle.hg_message.specs.Part.{draft_bounds, part_of}
use Rattle.hg_message.specs.Offer.{IsCommon, IsNamed, IsOutgoing, IsOffer}
use Rattle.hg_message.proofs.NamedLemmas.{named-above}
use Rattle.hg_message.proofs.ThoseLemmas.{those-member, those-front}

module _ (s : ReplicaState) (valid : IsValid s) (pins common : List Node) (m : MessageValue)
    (offer : IsOffer s pins common m) (g : Content)
    (has : (n : Node) → IsCommon (content_of s) common n → IsHeld g.0 n)
    (apart : (n : Node) (h k : Held) → (content_of s).0 n ≡ Some h → g.0 n ≡ Some k → h.changeset ≡ k.changeset) where
  abbrev P : Node → Type 0
  P = IsNamed (content_of s) pins m.scope

  vf : IsValidContent (content_of s)
  vf = content-valid s valid

  -- a changeset that is named and isn't common is outgoing
  outgoing : (n : Node) (h : Held) → (content_of s).0 n ≡ Some h → P n → ¬ (IsCommon (content_of s) common n)
      → IsOutgoing (content_of s) P common h.changeset
  outgoing n h e named new =
      let id = (vf.named n h e).0 in (
        (h, subst (λ x. (content_of s).0 x ≡ Some h) (sym id) e, refl),
        subst P (sym id) named,
        λ k. new (subst (IsCommon (content_of s) common) id k),
      )

  -- what is named is held, or comes with the offer
  pub known : (n : Node) (h : Held) → (content_of s).0 n ≡ Some h → P n
      → IsHeld g.0 n ⊎ IsOutgoing (content_of s) P common h.changeset
  known n h e named = by (g.0 n) refl
    where
      by : (o : Option Held) → g.0 n ≡ o → IsHeld g.0 n ⊎ IsOutgoing (content_of s) P common h.changeset
      by (Some k) at = inl (k, at)
      by None at = inr (outgoing n h e named (λ c. let x = has n c in none-some x.0 (sym at ∙ x.1)))

  said : (c : Contents) → Contains m.changesets c → IsOutgoing (content_of s) P common c
  said c at = (offer.says.changesets c).0 at

  each : (c : Contents) → Contains m.changesets c → IsChangeset c
  each c at = let h = (said c at).0 in subst IsChangeset h.2 (vf.named (node_of c) h.0 h.1).1

  parents : (i : ℕ) (c : Contents) → slice_get m.changesets i ≡ Some c → (p : Node) → IsParent c p
      → IsHeldWith g.0 (take i m.changesets) p
  parents i c at p is =
      let out = said c (Contains-from_place m.changesets i c at) in
      let h = out.0 in
      let is_parent : IsParent h.0.changeset p = subst (λ (x : Contents). IsParent x p) (sym h.2) is in
      let parent = vf.parents (node_of c) h.0 p h.1 is_parent in
      let named = named-above (content_of s) pins m.scope p (node_of c) vf out.1 (below itself h.1 is_parent) in
      let front = those-front (IsOutgoing (content_of s) P common)
      (changesets s.history) m.changesets i c offer.changesets at in
      elim (known p parent.0 parent.1 named) [
        | inl held ↦ inl held
        | inr new ↦
            let d = Contains-map_from node_of (take front.0 (changesets s.history)) p
            (valid.graph.parents_first front.0 c front.1 p is) in
            let at_d = content-changeset s.history valid.graph p d.0
            (Contains-take (changesets s.history) front.0 d.0 d.1) d.2 in
            let same : d.0 ≡ parent.0.changeset = sym at_d.2 ∙ ap (λ (x : Held). x.changeset)
            (same_Some at_d.0 parent.0 (sym at_d.1 ∙ parent.1)) in
            let first = subst (Contains (take front.0 (changesets s.history))) same d.1 in
            inr (
              parent.0.changeset,
              (those-member (IsOutgoing (content_of s) P common) (take front.0 (changesets s.history))
                  (take i m.changesets) front.2 parent.0.changeset).1 (first, new),
              (vf.named p parent.0 parent.1).0,
            )
      ]

  bounds : (b : Node × Phase) → Contains (m.bounds ++ draft_bounds m.changesets) b → IsHeldWith g.0 m.changesets b.0
  bounds b at = elim (Contains-append_cases m.bounds (draft_bounds m.changesets) b at) [
    | inl told ↦
        let x = (offer.says.bounds b).0 told in
        let h = x.0.1 in
        elim (known b.0 h.0 h.1 x.0.0) [
          | inl held ↦ inl held
          | inr new ↦ inr (h.0.changeset, (offer.says.changesets h.0.changeset).1 new, (vf.named b.0 h.0 h.1).0)
        ]
    | inr draft ↦
        let c = Contains-map_from (λ (x : Contents). (node_of x, Draft)) m.changesets b draft in
        inr (c.0, c.1, ap (λ (x : Node × Phase). x.0) c.2)
  ]

  one : (c d : Contents) → Contains m.changesets c → (IsHeldAs g.0 (node_of d) d ⊎ Contains m.changesets d)
      → node_of c ≡ node_of d → c ≡ d
  one c d at (inl k) e =
      let h = (said c at).0 in
      sym h.2 ∙ apart (node_of d) h.0 k.0 (subst (λ n. (content_of s).0 n ≡ Some h.0) e h.1) k.1 ∙ k.2
  one c d at (inr there) e =
      let h = (said c at).0 in
      let k = (said d there).0 in
      let same = same_Some h.0 k.0 (sym h.1 ∙ (ap (content_of s).0 e ∙ k.1)) in
      sym h.2 ∙ ap (λ (x : Held). x.changeset) same ∙ k.2

  pub offer-admitted : ContentAdmits g (part_of m)
  offer-admitted = record { each = each; parents = parents; bounds = bounds; apart = one }

pub offer-admitted_empty : (s : ReplicaState) (pins : List Node) (m : MessageValue) → IsValid s → IsOffer s pins [] m
    → ContentAdmits (content_of (record { history = state_of [] []; markers = [] })) (part_of m)
offer-admitted_empty s pins m valid offer =
    offer-admitted s valid pins [] m offer (content_of (record { history = state_of [] []; markers = [] }))
    (λ n c. absurd (Contains-none c.0 c.1))
    (λ n h k e none. absurd (none-some k none))
