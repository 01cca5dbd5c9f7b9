-- What an offer leaves where it is taken in.
use Rattle.std.proofs.Common.{◌≡◌, ℕ, zero, suc, ◌<◌, ◌≤◌, ◌+◌, inl, inr, List, length, Some, refl, sym, ap, subst, ◌∙◌}
use Rattle.std.proofs.Common.{arith}
use Rattle.std.proofs.lemmas.Bool.{cases_lt, cases_eq, or_left, or_right}
use Rattle.std.proofs.lemmas.Option.{same_Some}
use Rattle.std.proofs.lemmas.List.Elements.{Contains-append_left}
use Rattle.hg_changeset.specs.declared.node.Node.{Node}
use Rattle.hg_changeset.specs.Contents.{Contents}
use Rattle.hg_graph.specs.Graph.{IsParent}
use Rattle.hg_graph.specs.Places.{IsAt}
use Rattle.hg_graph.proofs.PlaceLemmas.{place_from_Holds, placed_within, ancestor_first}
use Rattle.hg_phases.specs.declared.phase.Phase.{Phase}
use Rattle.hg_phases.specs.State.{Held, changesets, rank}
use Rattle.hg_history.specs.Content.{IsHeld, IsHeldAs, Leads, IsBelowAt}
use Rattle.hg_history.specs.Content.Leads.{itself, below}
use Rattle.hg_history.specs.ContentLaws.{contents_absorbed}
use Rattle.hg_history.proofs.ContentLemmas.{node_in_content, reach_from_leads}
use Rattle.hg_marker.specs.Fields.{Fields}
use Rattle.hg_replica.specs.State.{ReplicaState, IsValid}
use Rattle.hg_replica.specs.Content.{Content, content_of, IsValidContent, ContentBelow, ContentCovers, ContentAdmits}
use Rattle.hg_replica.specs.Content.{ContentAfter}
use Rattle.hg_replica.proofs.ContentLemmas.{content-valid}
use Rattle.hg_replica.proofs.MarkerLemmas.{holds-from}
use Rattle.hg_view.proofs.LawLemmas.{leads-along}
use Rattle.hg_message.specs.Value.{MessageValue}
use Rattle.hg_message.specs.Part.{draft_bounds, part_of}
use Rattle.hg_message.specs.Offer.{AreHeld, IsCommon, IsHead, IsNamed, IsOneWith, IsOffer}
use Rattle.hg_message.specs.Taken.{DontCollide, HoldsNamed}
use Rattle.hg_message.proofs.AdmittedLemmas.{offer-admitted, known}
use Rattle.hg_message.proofs.NamedLemmas.{named-above}

module _ (s : ReplicaState) (valid : IsValid s) (pins common : List Node) (m : MessageValue)
    (offer : IsOffer s pins common m) (g : Content) (vg : IsValidContent g) (has : AreHeld g common)
    (free : DontCollide (content_of s) g) where
  abbrev P : Node → Type 0
  P = IsNamed (content_of s) pins m.scope

  vf : IsValidContent (content_of s)
  vf = content-valid s valid

  -- the ancestors of the common nodes are held too
  common_held : (n k : Node) → Leads (content_of s).0 n k → IsHeld g.0 k → IsHeld g.0 n
  common_held n k itself held = held
  common_held n k (below {p = p} {h = h} r e is) held =
      let same : h.changeset ≡ held.0.changeset = free k h held.0 e held.1 in
      let parent = vg.parents k held.0 p held.1 (subst (λ (c : Contents). IsParent c p) same is) in
      common_held n p r (parent.0, parent.1)

  has_common : (n : Node) → IsCommon (content_of s) common n → IsHeld g.0 n
  has_common n c = common_held n c.0 c.2 (has c.0 c.1)

  pub taken-admitted : ContentAdmits g (part_of m)
  taken-admitted = offer-admitted s valid pins common m offer g has_common free

  -- ---- where the part is covered

  module _ (covers : ContentCovers g (part_of m)) where
    -- what is named is held
    named_held : (n : Node) (h : Held) → (content_of s).0 n ≡ Some h → P n → IsHeldAs g.0 n h.changeset
    named_held n h e named = elim (known s valid pins common m offer g has_common free n h e named) [
      | inl held ↦ (held.0, held.1, sym (free n h held.0 e held.1))
      | inr out ↦
          let x = covers.0.holds h.changeset ((offer.says.changesets h.changeset).1 out) in
          subst (λ (k : Node). IsHeldAs g.0 k h.changeset) (vf.named n h e).0 x
    ]

    -- and so are its ancestors, with their order
    leads_named : (a n : Node) → Leads (content_of s).0 a n → P n → Leads g.0 a n
    leads_named a n itself named = itself
    leads_named a n (below {p = p} {h = h} r e is) named =
        let x = named_held n h e named in
        let parent = named-above (content_of s) pins m.scope p n vf named (below itself e is) in
        below (leads_named a p r parent) x.1 (subst (λ (c : Contents). IsParent c p) (sym x.2) is)

    -- a bound of the offer is kept
    bound_kept : (d : Node) (phase : Phase) → IsHead (content_of s) (IsOneWith (content_of s) P phase) d
        → (n : Node) (k : Held) → g.0 n ≡ Some k → Leads (content_of s).0 n d → rank k.phase ≤ rank phase
    bound_kept d phase head n k at leads =
        let told = Contains-append_left m.bounds (draft_bounds m.changesets) (d, phase)
        ((offer.says.bounds (d, phase)).1 head) in
        (covers.0.bounded (d, phase) told).1 n k at (leads_named n d leads head.0.0)

    -- a named changeset is a head where no later one with its phase is a descendant
    last_head : (phase : Phase) (n d : Node) (p : ℕ) → IsAt (changesets s.history) d p
        → IsOneWith (content_of s) P phase d → Leads (content_of s).0 n d
        → ((e : Node) (q : ℕ) → IsAt (changesets s.history) e q → p < q → IsOneWith (content_of s) P phase e
        → Leads (content_of s).0 n e → ⊥) → IsHead (content_of s) (IsOneWith (content_of s) P phase) d
    last_head phase n d p at_p so leads later = (
      so,
      λ e so_e up.
          let held_e = node_in_content s.history valid.graph e (so_e.1.0, so_e.1.1) in
          let q = place_from_Holds (changesets s.history) e held_e in
          let reach = reach_from_leads s.history valid.graph d e held_e up in
          let le : p ≤ q.0 = ancestor_first (changesets s.history) valid.graph p q.0 (d, e, at_p, q.1, reach) in
          elim (cases_eq p q.0) [
            | inl same ↦ same_Some e d (sym (subst (IsAt (changesets s.history) e) (sym same) q.1) ∙ at_p)
            | inr lt ↦ absurd (later e q.0 q.1 (omega arith) so_e (leads-along (content_of s).0 n d e leads up))
          ],
    )

    -- so there is a head above each, which has a bound: what stands last
    none_above : (n : Node) (phase : Phase) (k : Held) → g.0 n ≡ Some k → rank phase < rank k.phase
        → (j : ℕ) (d : Node) (p : ℕ) → IsAt (changesets s.history) d p → length (changesets s.history) ≤ p + j
        → IsOneWith (content_of s) P phase d → Leads (content_of s).0 n d → ⊥
    none_above n phase k at high zero d p at_p far so leads =
        omega (arith, placed_within (changesets s.history) d p at_p, far)
    none_above n phase k at high (suc j) d p at_p far so leads =
        let head = last_head phase n d p at_p so leads (λ e q at_q lt so_e up. none_above n phase k at high j e q at_q
        (omega arith) so_e up) in
        omega (arith, bound_kept d phase head n k at leads, high)

    named_low : (n : Node) → P n → IsBelowAt ((content_of s).0 n) (g.0 n)
    named_low n named h e =
        let x = named_held n h e named in (
          x.0,
          x.1,
          x.2,
          elim (cases_lt (rank h.phase) (rank x.0.phase)) [
            | inl high ↦
                let q = place_from_Holds (changesets s.history) n (node_in_content s.history valid.graph n (h, e)) in
                absurd (none_above n h.phase x.0 x.1 high (length (changesets s.history)) n q.0 q.1 (omega arith)
                (named, (h, e, refl)) itself)
            | inr le ↦ le
          ],
        )

    pub covering-named : HoldsNamed (content_of s) pins m.scope g
    covering-named = record {
      changesets = named_low;
      markers = λ k named. covers.1 k (holds-from m.markers k ((offer.says.markers k).1 named));
    }

-- what is held stays held
pub common_later : (common : List Node) (g later : Content) → AreHeld g common → ContentBelow g later
    → AreHeld later common
common_later common g later has up k at = let h = has k at in let l = up.0 k h.0 h.1 in (l.0, l.1)

-- once it is taken, the part is covered, and still no id stands for two changesets
module _ (s : ReplicaState) (valid : IsValid s) (pins common : List Node) (m : MessageValue)
    (offer : IsOffer s pins common m) (g : Content) (vg : IsValidContent g) (has : AreHeld g common)
    (free : DontCollide (content_of s) g) (after : Content) (taken : ContentAfter g (part_of m) after) where
  free_after : DontCollide (content_of s) after
  free_after n h k e at = elim ((taken.0.union n k.changeset).0 (k, at, refl)) [
    | inl was ↦ free n h was.0 e was.1 ∙ was.2
    | inr new ↦
        let x = ((offer.says.changesets k.changeset).0 new.0).0 in
        let there : (content_of s).0 n ≡ Some x.0 = subst (λ (j : Node). (content_of s).0 j ≡ Some x.0) new.1 x.1 in
        ap (λ (y : Held). y.changeset) (same_Some h x.0 (sym e ∙ there)) ∙ x.2
  ]

  pub taken-named : HoldsNamed (content_of s) pins m.scope after
  taken-named =
      let all = contents_absorbed g.0 after.0 (part_of m).history vg taken.0 in
      let more : ContentBelow g after =
      (all.above, λ k h. ap (λ (u : Fields → _). u k) taken.1 ∙ or_left _ _ h) in
      covering-named s valid pins common m offer after all.valid (common_later common g after has more) free_after
      (all.covers.0, λ k h. ap (λ (u : Fields → _). u k) taken.1 ∙ or_right _ _ h)
