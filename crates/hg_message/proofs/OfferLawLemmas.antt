-- What holds of every offer, by what it says and how it stands.
use Rattle.std.proofs.Common.{◌≡◌, ◌≢◌, ◌≤◌, List, ◌++◌, Some, Contains, ◌↔◌, inl, inr, refl, sym, ap, subst, ◌∙◌}
use Rattle.std.proofs.Common.{arith}
use Rattle.std.specs.Cmp.{both_ways}
use Rattle.std.specs.BTreeSet.{BTreeSet}
use Rattle.std.specs.List.Sorted.{IsStrictlySortedBy}
use Rattle.std.proofs.lemmas.Map.Lookups.{btree_set_from_contains}
use Rattle.std.proofs.lemmas.Map.Views.{btree_set_contains_iff}
use Rattle.std.proofs.lemmas.List.Elements.{Contains-append_left, Contains-append_right, Contains-append_cases}
use Rattle.hg_changeset.specs.declared.node.Node.{Node}
use Rattle.hg_changeset.specs.Node.{node_cmp}
use Rattle.hg_changeset.specs.Contents.{Contents}
use Rattle.hg_changeset.specs.Changeset.{node_of}
use Rattle.hg_changeset.proofs.NodeLemmas.{node_cmp_total, node_cmp_exact}
use Rattle.hg_changeset.proofs.ListLemmas.{Contains-map, Contains-map_from}
use Rattle.hg_phases.specs.declared.phase.Phase.{Phase}
use Rattle.hg_phases.specs.declared.phase.Phase.TheVariants.{Public, Draft, Secret}
use Rattle.hg_phases.specs.State.{Held, rank, changesets}
use Rattle.hg_marker.specs.Fields.{Fields}
use Rattle.hg_history.specs.ContentLaws.{leads-low}
use Rattle.hg_relevant.specs.Relevant.IsRelevant.{direct, further}
use Rattle.hg_replica.specs.State.{ReplicaState}
use Rattle.hg_replica.specs.Content.{Content, IsValidContent, ContentCovers, content_of}
use Rattle.hg_replica.proofs.MarkerLemmas.{holds-from, in_from_holds}
use Rattle.hg_view.specs.Pins.{AreSamePins, IsServedUnder}
use Rattle.hg_view.proofs.PinLemmas.{rest-alike, visible-members}
use Rattle.hg_message.specs.Value.{MessageValue}
use Rattle.hg_message.specs.Part.{draft_bounds, part_of}
use Rattle.hg_message.specs.declared.scope.Scope.{Scope}
use Rattle.hg_message.specs.declared.scope.Scope.TheVariants.{Served, Whole}
use Rattle.hg_message.specs.Offer.{IsNamed, IsNamedMarker, IsOutgoing, IsOneWith, IsHead, IsOfferedBound, SaysOffer}
use Rattle.hg_message.specs.Offer.{SayTheSame, AreHeads, bounds_in, AreOfferedBounds, IsOffer}
use Rattle.hg_message.specs.Those.{AreThose}
use Rattle.hg_message.proofs.NamedLemmas.{named-not_secret, named_marker-held}
use Rattle.hg_message.proofs.ThoseLemmas.{those-once}

pub not_secret : (phase : Phase) → phase ≢ Secret → rank phase ≤ 1
not_secret Public no_secret = omega arith
not_secret Draft no_secret = omega arith
not_secret Secret no_secret = absurd (no_secret refl)

-- ---- an offer says no more than the content

module _ (f : Content) (pins common : List Node) (m : MessageValue) (says : SaysOffer f pins common m) where
  pub named-changesets : (c : Contents) → Contains m.changesets c → IsNamed f pins m.scope (node_of c)
  named-changesets c at = ((says.changesets c).0 at).1

  pub named-bounds : (b : Node × Phase) → Contains m.bounds b → IsNamed f pins m.scope b.0
  named-bounds b at = ((says.bounds b).0 at).0.0

  -- each bound is of what is named, and no lower than its phase
  pub bounds-named : (b : Node × Phase) → Contains (m.bounds ++ draft_bounds m.changesets) b
      → (h : Held) × (f.0 b.0 ≡ Some h) × (rank h.phase ≤ rank b.1) × IsNamed f pins m.scope b.0
  bounds-named b at = elim (Contains-append_cases m.bounds (draft_bounds m.changesets) b at) [
    | inl told ↦
        let x = (says.bounds b).0 told in
        let h = x.0.1 in
        let same : rank h.0.phase ≡ rank b.1 = ap rank h.2 in
        (h.0, h.1, omega (arith, same), x.0.0)
    | inr draft ↦
        let c = Contains-map_from (λ (x : Contents). (node_of x, Draft)) m.changesets b draft in
        let out = (says.changesets c.0).0 c.1 in
        let h = out.0 in
        let low = not_secret h.0.phase
        (λ secret. named-not_secret f pins m.scope (node_of c.0) out.1 (h.0, h.1, secret)) in
        subst (λ (x : Node × Phase). (g : Held) × (f.0 x.0 ≡ Some g) × (rank g.phase ≤ rank x.1)
        × IsNamed f pins m.scope x.0) c.2 (h.0, h.1, low, out.1)
  ]

  pub offer-covered : IsValidContent f → ContentCovers f (part_of m)
  offer-covered v = (
    record {
      holds = λ c at. ((says.changesets c).0 at).0;
      bounded = λ b at.
          let x = bounds-named b at in
          ((x.0, x.1), λ n h e leads. let low = leads-low f.0 v n b.0 leads h x.0 e x.1 in omega (arith, low, x.2));
    },
    λ k e. named_marker-held f pins m.scope k ((says.markers k).0 (in_from_holds m.markers k e)),
  )

-- ---- what is offered of one content says the same

-- the predicates of one scope say the same as those of the other, where they are one
pub offers-say_the_same : (f : Content) (pins common : List Node) (m n : MessageValue) → m.scope ≡ n.scope
    → SaysOffer f pins common m → SaysOffer f pins common n → SayTheSame m n
offers-say_the_same f pins common m n same a b = record {
  changesets = λ c. (
    λ h. (b.changesets c).1 (subst (λ k. IsOutgoing f (IsNamed f pins k) common c) same ((a.changesets c).0 h)),
    λ h. (a.changesets c).1 (subst (λ k. IsOutgoing f (IsNamed f pins k) common c) (sym same) ((b.changesets c).0 h)),
  );
  bounds = λ x. (
    λ h. (b.bounds x).1 (subst (λ k. IsOfferedBound f (IsNamed f pins k) x) same ((a.bounds x).0 h)),
    λ h. (a.bounds x).1 (subst (λ k. IsOfferedBound f (IsNamed f pins k) x) (sym same) ((b.bounds x).0 h)),
  );
  markers = λ k. (
    λ h. (b.markers k).1 (subst (λ j. IsNamedMarker f pins j k) same ((a.markers k).0 h)),
    λ h. (a.markers k).1 (subst (λ j. IsNamedMarker f pins j k) (sym same) ((b.markers k).0 h)),
  );
}

-- pins with the same members have the same offers
module _ (f : Content) (pins others : List Node) (same : AreSamePins pins others) where
  served-members : (n : Node) → IsServedUnder f pins n ↔ IsServedUnder f others n
  served-members n = rest-alike (visible-members f pins others same n)

  named-members : (scope : Scope) (n : Node) → IsNamed f pins scope n ↔ IsNamed f others scope n
  named-members Served n = served-members n
  named-members Whole n = (λ h. h, λ h. h)

  head-members : (scope : Scope) (phase : Phase) (n : Node) → IsHead f (IsOneWith f (IsNamed f others scope) phase) n
      → IsHead f (IsOneWith f (IsNamed f pins scope) phase) n
  head-members scope phase n h = (
    ((named-members scope n).1 h.0.0, h.0.1),
    λ d so leads. h.1 d ((named-members scope d).0 so.0, so.1) leads,
  )

  outgoing-members : (scope : Scope) (common : List Node) (c : Contents)
      → IsOutgoing f (IsNamed f others scope) common c → IsOutgoing f (IsNamed f pins scope) common c
  outgoing-members scope common c h = (h.0, (named-members scope (node_of c)).1 h.1, h.2)

  relevant-members : (k : Fields) → IsNamedMarker f others Served k → IsNamedMarker f pins Served k
  relevant-members k (direct {n = n} one h touches) = direct ((served-members n).1 one) h touches
  relevant-members k (further {before = b} r h touches) = further (relevant-members b r) h touches

  marker-members : (scope : Scope) (k : Fields) → IsNamedMarker f others scope k → IsNamedMarker f pins scope k
  marker-members Served k h = relevant-members k h
  marker-members Whole k h = h

same-members : (pins others : List Node) → AreSamePins pins others → AreSamePins others pins
same-members pins others same n = ((same n).1, (same n).0)

pub says-members : (f : Content) (pins others common : List Node) (m : MessageValue) → AreSamePins pins others
    → SaysOffer f others common m → SaysOffer f pins common m
says-members f pins others common m same says =
    let back = same-members pins others same in
    record {
      changesets = λ c. (
        λ at. outgoing-members f pins others same m.scope common c ((says.changesets c).0 at),
        λ h. (says.changesets c).1 (outgoing-members f others pins back m.scope common c h),
      );
      bounds = λ b. (
        λ at. head-members f pins others same m.scope b.1 b.0 ((says.bounds b).0 at),
        λ h. (says.bounds b).1 (head-members f others pins back m.scope b.1 b.0 h),
      );
      markers = λ k. (
        λ at. marker-members f pins others same m.scope k ((says.markers k).0 at),
        λ h. (says.markers k).1 (marker-members f others pins back m.scope k h),
      );
    }

same-bounds : (m n : MessageValue) → SayTheSame m n → (b : Node × Phase)
    → Contains (n.bounds ++ draft_bounds n.changesets) b → Contains (m.bounds ++ draft_bounds m.changesets) b
same-bounds m n same b at = elim (Contains-append_cases n.bounds (draft_bounds n.changesets) b at) [
  | inl told ↦ Contains-append_left m.bounds (draft_bounds m.changesets) b ((same.bounds b).1 told)
  | inr draft ↦
      let c = Contains-map_from (λ (x : Contents). (node_of x, Draft)) n.changesets b draft in
      Contains-append_right m.bounds (draft_bounds m.changesets) b
      (subst (Contains (draft_bounds m.changesets)) c.2 (Contains-map
      (λ (x : Contents). (node_of x, Draft)) m.changesets c.0 ((same.changesets c.0).1 c.1)))
]

covered-same : (f : Content) (m n : MessageValue) → SayTheSame m n → ContentCovers f (part_of m)
    → ContentCovers f (part_of n)
covered-same f m n same covers = (
  record {
    holds = λ c at. covers.0.holds c ((same.changesets c).1 at);
    bounded = λ b at. covers.0.bounded b (same-bounds m n same b at);
  },
  λ k e. covers.1 k (holds-from m.markers k ((same.markers k).1 (in_from_holds n.markers k e))),
)

-- what covers the part of one covers that of the other
pub same-covered : (m n : MessageValue) → SayTheSame m n → (f : Content)
    → ContentCovers f (part_of m) ↔ ContentCovers f (part_of n)
same-covered m n same f = (
  covered-same f m n same,
  covered-same f n m (record {
    changesets = λ c. ((same.changesets c).1, (same.changesets c).0);
    bounds = λ b. ((same.bounds b).1, (same.bounds b).0);
    markers = λ k. ((same.markers k).1, (same.markers k).0);
  }),
)

-- ---- an offer is one

-- an ascending list is told by its members
sorted-once : (xs ys : List Node) → IsStrictlySortedBy node_cmp xs → IsStrictlySortedBy node_cmp ys
    → ((n : Node) → Contains xs n ↔ Contains ys n) → xs ≡ ys
sorted-once xs ys a b same =
    let s : BTreeSet Node = record { keys = xs } in
    let t : BTreeSet Node = record { keys = ys } in
    let in_s = btree_set_contains_iff node_cmp_total node_cmp_exact s in
    let in_t = btree_set_contains_iff node_cmp_total node_cmp_exact t in
    btree_set_from_contains node_cmp_total s t a b (λ n. both_ways _ _ (λ h. (in_t n).1 ((same n).0 ((in_s n).0 h)))
    (λ h. (in_s n).1 ((same n).1 ((in_t n).0 h)))) node_cmp_exact

heads-once : (f : Content) (P : Node → Type 0) (xs ys : List Node) → AreHeads f P xs → AreHeads f P ys → xs ≡ ys
heads-once f P xs ys a b = sorted-once xs ys a.ascending b.ascending
    (λ n. (λ h. (b.exact n).1 ((a.exact n).0 h), λ h. (a.exact n).1 ((b.exact n).0 h)))

bounds-once : (f : Content) (P : Node → Type 0) (xs ys : List (Node × Phase)) → AreOfferedBounds f P xs
    → AreOfferedBounds f P ys → xs ≡ ys
bounds-once f P xs ys a b =
    a.both
    ∙ ap (λ ns. bounds_in Public ns ++ bounds_in Draft a.draft)
    (heads-once f (IsOneWith f P Public) a.public b.public a.public_heads b.public_heads)
    ∙ ap (λ ns. bounds_in Public b.public ++ bounds_in Draft ns)
    (heads-once f (IsOneWith f P Draft) a.draft b.draft a.draft_heads b.draft_heads)
    ∙ sym b.both

-- what stands of the scope, and in which order, tells the offer
pub offer-once : (s : ReplicaState) (pins common : List Node) (m n : MessageValue) → m.scope ≡ n.scope
    → IsOffer s pins common m → IsOffer s pins common n → m ≡ n
offer-once s pins common m n same a b =
    let f = content_of s in
    let b_changesets =
    subst (λ k. AreThose (IsOutgoing f (IsNamed f pins k) common) (changesets s.history) n.changesets)
    (sym same) b.changesets in
    let b_bounds = subst (λ k. AreOfferedBounds f (IsNamed f pins k) n.bounds) (sym same) b.bounds in
    let b_markers = subst (λ k. AreThose (IsNamedMarker f pins k) s.markers n.markers) (sym same) b.markers in
    λ i. record {
      scope = same i;
      changesets = (those-once (IsOutgoing f (IsNamed f pins m.scope) common)
          (changesets s.history) m.changesets n.changesets a.changesets b_changesets) i;
      bounds = (bounds-once f (IsNamed f pins m.scope) m.bounds n.bounds a.bounds b_bounds) i;
      markers = (those-once (IsNamedMarker f pins m.scope) s.markers m.markers n.markers a.markers b_markers) i;
    }
