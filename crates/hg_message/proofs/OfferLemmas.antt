-- What the parts of an offer are.
use Rattle.std.proofs.Common.{◌≡◌, ◌≢◌, ℕ, ◌+◌, ◌-◌, ◌<◌, ◌≤◌, zero, suc, Bool, true, false, true≢false, ◌||◌, nat_lt}
use Rattle.std.proofs.Common.{Result, Ok, Err, List, [], ◌∷◌, ◌++◌, length, take, get_or, slice_get, Some, Contains}
use Rattle.std.proofs.Common.{◌↔◌, inl, inr, refl, sym, ap, subst, ◌∙◌, arith, length-append}
use Rattle.std.specs.List.Sorted.{IsStrictlySortedBy}
use Rattle.std.proofs.lemmas.Bool.{cases_lt, cases_eq, le-ltb, ltb-false}
use Rattle.std.proofs.lemmas.Map.Keys.{below_from_sorted, sorted_from_strictly_increasing}
use Rattle.std.proofs.lemmas.List.{get_or_default, take_all}
use Rattle.std.proofs.lemmas.Option.{same_Some, slice_get_within}
use Rattle.std.proofs.lemmas.List.Elements.{Contains-append_left, Contains-append_right, Contains-append_cases}
use Rattle.std.proofs.lemmas.List.Elements.{Contains-get_or}
use Rattle.hg_changeset.specs.declared.node.Node.{Node}
use Rattle.hg_changeset.specs.Contents.{Contents}
use Rattle.hg_changeset.specs.Changeset.{node_of}
use Rattle.hg_changeset.proofs.ListLemmas.{Contains-map, Contains-map_from, Contains-none}
use Rattle.hg_graph.specs.Graph.{IsAncestorOfOne, nodes}
use Rattle.hg_graph.specs.Marks.{IsMarked, IsMarkedNode}
use Rattle.hg_graph.proofs.GraphLemmas.{Contains-from_place}
use Rattle.hg_graph.proofs.MarkLemmas.{IsAt-from}
use Rattle.hg_graph.proofs.PlaceLemmas.{same_place}
use Rattle.hg_phases.specs.declared.phase.Phase.{Phase}
use Rattle.hg_phases.specs.declared.phase.Phase.TheVariants.{Public, Draft, Secret}
use Rattle.hg_phases.specs.State.{changesets}
use Rattle.hg_marker.specs.Fields.{Fields}
use Rattle.hg_history.specs.Content.{IsHeld}
use Rattle.hg_history.proofs.ContentLemmas.{content-changeset, changeset_in_content, node_in_content, leads_from_reach}
use Rattle.hg_history.proofs.ContentLemmas.{reach_from_leads}
use Rattle.hg_obsstore.specs.Markers.{ArePlaces, IsNamed as IsNamedByOne, Names}
use Rattle.hg_relevant.specs.Relevant.{IsRelevant, Touches}
use Rattle.hg_relevant.specs.Relevant.IsRelevant.{direct, further}
use Rattle.hg_replica.specs.State.{ReplicaState, IsValid}
use Rattle.hg_replica.specs.Content.{Content, content_of}
use Rattle.hg_replica.specs.Evolution.{HasPhase, IsMarker}
use Rattle.hg_replica.proofs.MarkerLemmas.{holds-from, in_from_holds}
use Rattle.std.specs.Result.{IfOk}
use Rattle.hg_obsstore.specs.Places.{picked}
use Rattle.hg_obsstore.specs.Spelling.{store_spelling}
use Rattle.hg_obsstore.proofs.PlaceLemmas.{picked-some}
use Rattle.hg_view.specs.Pins.{IsServedUnder}
use Rattle.hg_message.specs.declared.refusal.OfferRefusal.{OfferRefusal}
use Rattle.hg_message.specs.declared.refusal.OfferRefusal.TheVariants.{UnknownCommon, TooLarge, NoMemory}
use Rattle.hg_message.specs.Value.{MessageValue, IsMessage, is_too_large}
use Rattle.hg_message.specs.Limits.{count_limit}
use Rattle.hg_message.specs.Outgoing.{ArePlacesOf, FindAnswer}
use Rattle.hg_message.specs.Those.{AreThose}
use Rattle.hg_message.specs.declared.scope.Scope.{Scope}
use Rattle.hg_message.specs.declared.scope.Scope.TheVariants.{Served, Whole}
use Rattle.hg_message.specs.Offer.{AreHeld, IsCommon, IsNamed, IsNamedMarker, IsOutgoing, IsOneWith, IsHead}
use Rattle.hg_message.specs.Offer.{IsOfferedBound, AreHeads, bounds_in, AreOfferedBounds, IsOffer, IsOfferOf}
use Rattle.hg_message.specs.Offer.{HasNothing, OfferAnswer}
use Rattle.hg_message.proofs.NamedLemmas.{named-not_secret, named_marker-held}
use Rattle.hg_message.proofs.ThoseLemmas.{those-member, those-next, those-none, those-past}

-- ---- relevance

relevant-along : (H K : Fields → Type 0) (M N : Node → Type 0) → ((m : Fields) → H m → K m)
    → ((n : Node) (m : Fields) → H m → Touches n m → M n → N n) → (m : Fields) → IsRelevant H M m → IsRelevant K N m
relevant-along H K M N held named m (direct {n = n} one h touches) = direct (named n m h touches one) (held m h) touches
relevant-along H K M N held named m (further {before = b} r h touches) =
    further (relevant-along H K M N held named b r) (held m h) touches

touched-named : (n : Node) (m : Fields) → Touches n m → Names m n
touched-named n m touches = elim touches [
  | inl one ↦ inr (inl one)
  | inr prune ↦ elim prune.1 [ inl its ↦ inl its | inr parent ↦ inr (inr parent) ]
]

-- what is relevant to a list of what is served, among the markers of the store; what no marker names may be left out
pub relevant-offered : (s : ReplicaState) (pins served : List Node)
    → ((n : Node) → Contains served n → IsServedUnder (content_of s) pins n)
    → ((n : Node) → IsServedUnder (content_of s) pins n → IsNamedByOne s.markers n → Contains served n) → (m : Fields)
    → IsRelevant (Contains s.markers) (Contains served) m ↔ IsNamedMarker (content_of s) pins Served m
relevant-offered s pins served sound complete m = (
  relevant-along (Contains s.markers) (IsMarker (content_of s)) (Contains served) (IsServedUnder (content_of s) pins)
      (holds-from s.markers) (λ n k h touches. sound n) m,
  relevant-along (IsMarker (content_of s)) (Contains s.markers) (IsServedUnder (content_of s) pins) (Contains served)
      (in_from_holds s.markers)
      (λ n k h touches one. complete n one (k, in_from_holds s.markers k h, touched-named n k touches)) m,
)

-- the places that are told of a store are those of what is offered
pub places-offered : (s : ReplicaState) (pins served : List Node) (store : List Fields) (places : List ℕ)
    → ((n : Node) → Contains served n → IsServedUnder (content_of s) pins n)
    → ((n : Node) → IsServedUnder (content_of s) pins n → IsNamedByOne s.markers n → Contains served n)
    → store ≡ s.markers → ArePlaces (IsRelevant (Contains store) (Contains served)) store places
    → ArePlaces (IsNamedMarker (content_of s) pins Served) s.markers places
places-offered s pins served store places sound complete here all =
    let listed = subst (λ (ms : List Fields). ArePlaces (IsRelevant (Contains ms) (Contains served)) ms places) here
    all in
    record {
      ascending = listed.ascending;
      exact = λ k. (
        λ h. let x = (listed.exact k).0 h in (x.0, x.1, (relevant-offered s pins served sound complete x.0).0 x.2),
        λ h. (listed.exact k).1 (h.0, h.1, (relevant-offered s pins served sound complete h.0).1 h.2),
      );
    }

-- ---- what stands at ascending places

-- the places so far are below the bound, and the others aren't
pub record ArePicked {X : Type 0} (P : X → Type 0) (xs : List X) (places : List ℕ) (i : ℕ)
    (found : List X) : Type 0 where
  pub bound : ℕ
  pub within : bound ≤ length xs
  pub before : (k : ℕ) → k < i → k < length places → get_or places k 0 < bound
  pub after : (k : ℕ) → i ≤ k → k < length places → bound ≤ get_or places k 0
  pub those : AreThose P (take bound xs) found

strict : (a b : ℕ) → a ≤ b → a ≢ b → a < b
strict a b le ne = elim (cases_lt a b) [ inl lt ↦ lt | inr ge ↦ let e : a ≡ b = omega (arith, le, ge) in absurd (ne e) ]

module _ {X : Type 0} (P : X → Type 0) (xs : List X) (places : List ℕ) (are : ArePlacesOf P xs places) where
  picked_none : ArePicked P xs places 0 []
  picked_none = record {
    bound = 0;
    within = omega arith;
    before = λ k l w. absurd (omega (arith, l));
    after = λ k l w. omega arith;
    those = refl;
  }

  rising : (i k : ℕ) → i < k → k < length places → get_or places i 0 < get_or places k 0
  rising i k l w = below_from_sorted places i k 0 (sorted_from_strictly_increasing places are.ascending) l w

  read : (j : ℕ) (h : Contains places j) → get_or places h.0 0 ≡ j
  read j h = get_or_default places h.0 0 j h.1 ∙ h.2

  -- what stands between the bound and the next place isn't among the places
  between : (i : ℕ) (copies : List X) → i < length places → (c : ArePicked P xs places i copies) → (j : ℕ) (x : X)
      → c.bound ≤ j → j < get_or places i 0 → slice_get xs j ≡ Some x → ¬ (P x)
  between i copies l c j x le lt at p =
      let in' = (are.exact j).1 (x, at, p) in
      let q = read j in' in
      elim (cases_lt in'.0 i) [
        | inl early ↦ let b = c.before in'.0 early in'.1 in omega (arith, b, le, q)
        | inr late ↦ elim (cases_eq i in'.0) [
          | inl e ↦ let r : get_or places i 0 ≡ get_or places in'.0 0 = ap (λ (k : ℕ). get_or places k 0) e in
              omega (arith, q, r, lt)
          | inr other ↦ let up = rising i in'.0 (strict i in'.0 late other) in'.1 in omega (arith, up, lt, q)
        ]
      ]

  -- nor is anything from the bound on, after the last place
  beyond : (i : ℕ) (copies : List X) → length places ≤ i → (c : ArePicked P xs places i copies) → (j : ℕ) (x : X)
      → c.bound ≤ j → slice_get xs j ≡ Some x → ¬ (P x)
  beyond i copies ended c j x le at p =
      let in' = (are.exact j).1 (x, at, p) in
      let b = c.before in'.0 (omega (arith, ended, in'.1)) in'.1 in
      omega (arith, b, le, read j in')

  picked_more : (i : ℕ) (copies : List X) (m : X) → i < length places → slice_get xs (get_or places i 0) ≡ Some m
      → ArePicked P xs places i copies → ArePicked P xs places (i + 1) (copies ++ m ∷ [])
  picked_more i copies m l at c =
      let p = get_or places i 0 in
      let le = c.after i (omega arith) l in
      let within = slice_get_within xs p m at in
      let up_to : c.bound + (p - c.bound) ≡ p = omega (arith, le) in
      let past = those-past P xs copies c.bound (p - c.bound) (omega (arith, up_to, within))
      (λ j x from to. between i copies l c j x from (omega (arith, to, up_to))) c.those in
      let here = (are.exact p).0 (Contains-get_or places i 0 l) in
      let so : P m = subst P (same_Some here.0 m (sym here.1 ∙ at)) here.2 in
      record {
        bound = p + 1;
        within = omega (arith, within);
        before = λ k lt w. elim (cases_lt k i) [
          | inl early ↦ let b = c.before k early w in omega (arith, b, le)
          | inr late ↦ let e : k ≡ i = omega (arith, lt, late) in
              let r : get_or places k 0 ≡ get_or places i 0 = ap (λ (n : ℕ). get_or places n 0) e in omega (arith, r)
        ];
        after = λ k from w. let up = rising i k (omega (arith, from)) w in omega (arith, up);
        those = those-next P xs copies p m at (subst (λ n. AreThose P (take n xs) copies) up_to past) so;
      }

  picked_all : (i : ℕ) (copies : List X) → length places ≤ i → ArePicked P xs places i copies → AreThose P xs copies
  picked_all i copies ended c =
      let up_to : c.bound + (length xs - c.bound) ≡ length xs = omega (arith, c.within) in
      let past = those-past P xs copies c.bound (length xs - c.bound) (omega (arith, up_to))
      (λ j x from to at. beyond i copies ended c j x from at) c.those in
      subst (λ ys. AreThose P ys copies) (take_all (length xs) xs (omega arith))
      (subst (λ n. AreThose P (take n xs) copies) up_to past)

  -- as far as the first places
  picked_first : (i : ℕ) → i ≤ length places → ArePicked P xs places i (picked xs (take i places))
      × (length (picked xs (take i places)) ≡ i)
  picked_first zero l = (picked_none, refl)
  picked_first (suc i) l =
      let lt : i < length places = omega (arith, l) in
      let next : i + 1 ≡ suc i = omega arith in
      let here = (are.exact (get_or places i 0)).0 (Contains-get_or places i 0 lt) in
      let so_far = picked_first i (omega (arith, l)) in
      let more = picked-some xs places i lt here.0 here.1 in
      subst (λ (n : ℕ). ArePicked P xs places n (picked xs (take n places))
      × (length (picked xs (take n places)) ≡ n)) next (
        subst (ArePicked P xs places (i + 1)) (sym more) (picked_more i
            (picked xs (take i places)) here.0 lt here.1 so_far.0),
        ap length more ∙ omega (arith, length-append (picked xs (take i places)) (here.0 ∷ []), so_far.1),
      )

  pub picked-those : AreThose P xs (picked xs places)
  picked-those = subst (λ (ps : List ℕ). AreThose P xs (picked xs ps)) (take_all (length places) places (omega arith))
      (picked_all (length places) (picked xs (take (length places) places)) (omega arith)
      (picked_first (length places) (omega arith)).0)

  pub picked-length : length (picked xs places) ≡ length places
  picked-length = ap (λ (ps : List ℕ). length (picked xs ps)) (sym (take_all (length places) places (omega arith)))
      ∙ (picked_first (length places) (omega arith)).1

-- ---- what is said

outgoing-said : (s : ReplicaState) → IsValid s → (P : Node → Type 0) (common : List Node) (cs : List Contents)
    → AreThose (IsOutgoing (content_of s) P common) (changesets s.history) cs → (c : Contents)
    → Contains cs c ↔ IsOutgoing (content_of s) P common c
outgoing-said s valid P common cs are c =
    let told = those-member (IsOutgoing (content_of s) P common) (changesets s.history) cs are c in
    (λ h. (told.0 h).1, λ h. told.1 ((changeset_in_content s.history valid.graph (node_of c) c h.0).0, h))

markers-said : (s : ReplicaState) (pins : List Node) (scope : Scope) (ms : List Fields)
    → AreThose (IsNamedMarker (content_of s) pins scope) s.markers ms → (m : Fields)
    → Contains ms m ↔ IsNamedMarker (content_of s) pins scope m
markers-said s pins scope ms are m =
    let told = those-member (IsNamedMarker (content_of s) pins scope) s.markers ms are m in (
      λ h. (told.0 h).1,
      λ h. told.1 (in_from_holds s.markers m (named_marker-held (content_of s) pins scope m h), h),
    )

module _ (f : Content) (P : Node → Type 0) (low : (n : Node) → P n → ¬ (HasPhase f n Secret))
    (bounds : List (Node × Phase)) (are : AreOfferedBounds f P bounds) where
  from_heads : (phase : Phase) (heads : List Node) (b : Node × Phase) → AreHeads f (IsOneWith f P phase) heads
      → Contains (bounds_in phase heads) b → IsOfferedBound f P b
  from_heads phase heads b exact h =
      let n = Contains-map_from (λ (x : Node). (x, phase)) heads b h in
      subst (IsOfferedBound f P) n.2 ((exact.exact n.0).0 n.1)

  to_bound : (n : Node) (phase : Phase) → IsHead f (IsOneWith f P phase) n → Contains bounds (n, phase)
  to_bound n Public h = subst (λ bs. Contains bs (n, Public)) (sym are.both)
      (Contains-append_left (bounds_in Public are.public) (bounds_in Draft are.draft) (n, Public)
      (Contains-map (λ (x : Node). (x, Public)) are.public n ((are.public_heads.exact n).1 h)))
  to_bound n Draft h = subst (λ bs. Contains bs (n, Draft)) (sym are.both)
      (Contains-append_right (bounds_in Public are.public) (bounds_in Draft are.draft) (n, Draft)
      (Contains-map (λ (x : Node). (x, Draft)) are.draft n ((are.draft_heads.exact n).1 h)))
  to_bound n Secret h = absurd (low n h.0.0 h.0.1)

  pub bounds-said : (b : Node × Phase) → Contains bounds b ↔ IsOfferedBound f P b
  bounds-said b = (
    λ h. elim (Contains-append_cases (bounds_in Public are.public) (bounds_in Draft are.draft) b
        (subst (λ bs. Contains bs b) are.both h)) [
          | inl at ↦ from_heads Public are.public b are.public_heads at
          | inr at ↦ from_heads Draft are.draft b are.draft_heads at
        ],
    λ h. to_bound b.0 b.1 h,
  )

pub is-offer : (s : ReplicaState) → IsValid s → (pins common : List Node) (scope : Scope) (cs : List Contents)
    (bounds : List (Node × Phase)) (ms : List Fields)
    → AreThose (IsOutgoing (content_of s) (IsNamed (content_of s) pins scope) common) (changesets s.history) cs
    → AreOfferedBounds (content_of s) (IsNamed (content_of s) pins scope) bounds
    → AreThose (IsNamedMarker (content_of s) pins scope) s.markers ms
    → IsOffer s pins common (record { scope = scope; changesets = cs; bounds = bounds; markers = ms })
is-offer s valid pins common scope cs bounds ms out heads named =
    let f = content_of s in
    record {
      says = record {
        changesets = outgoing-said s valid (IsNamed f pins scope) common cs out;
        bounds = bounds-said f (IsNamed f pins scope) (named-not_secret f pins scope) bounds heads;
        markers = markers-said s pins scope ms named;
      };
      changesets = out;
      bounds = heads;
      markers = named;
    }

-- ---- without a changeset, and without a marker that is named, nothing is offered

module _ (s : ReplicaState) (valid : IsValid s) (pins : List Node) where
  no-changesets : (scope : Scope) → HasNothing s scope → changesets s.history ≡ []
  no-changesets Served none = none
  no-changesets Whole none = none.0

  module _ (none : changesets s.history ≡ []) where
    not-held : (n : Node) → ¬ (IsHeld (content_of s).0 n)
    not-held n held = let at = node_in_content s.history valid.graph n held in
        absurd (Contains-none n (subst (λ (cs : List Contents). Contains (nodes cs) n) none at))

    not-named : (scope : Scope) (n : Node) → ¬ (IsNamed (content_of s) pins scope n)
    not-named Served n h = not-held h.0.0 h.0.1.0
    not-named Whole n h = not-held n h.0

    not-relevant : (m : Fields) → ¬ (IsNamedMarker (content_of s) pins Served m)
    not-relevant m (direct {n = n} one h touches) = not-named Served n one
    not-relevant m (further {before = b} r h touches) = not-relevant b r

    no-heads : (scope : Scope) (phase : Phase)
        → AreHeads (content_of s) (IsOneWith (content_of s) (IsNamed (content_of s) pins scope) phase) []
    unfolding IsStrictlySortedBy
    no-heads scope phase = record {
      exact = λ n. ((λ h. absurd (Contains-none n h)), λ h. absurd (not-named scope n h.0.0));
      ascending = tt;
    }

  no-markers : (scope : Scope) → HasNothing s scope → AreThose (IsNamedMarker (content_of s) pins scope) s.markers []
  no-markers Served none = those-none (IsNamedMarker (content_of s) pins Served) s.markers (not-relevant none)
  no-markers Whole none =
      subst (λ (ms : List Fields). AreThose (IsNamedMarker (content_of s) pins Whole) ms []) (sym none.1) refl

  pub nothing-offered : (common : List Node) (scope : Scope) → HasNothing s scope
      → IsOfferOf s pins common scope (record { scope = scope; changesets = []; bounds = []; markers = [] })
  nothing-offered common scope nothing =
      let none = no-changesets scope nothing in (
        is-offer s valid pins common scope [] [] []
            (subst (λ (cs : List Contents).
            AreThose (IsOutgoing (content_of s) (IsNamed (content_of s) pins scope) common) cs []) (sym none) refl)
            (record {
              public = [];
              draft = [];
              public_heads = no-heads none scope Public;
              draft_heads = no-heads none scope Draft;
              both = refl;
            })
            (no-markers scope nothing),
        refl,
      )

-- ---- what is common

pub common-are : (s : ReplicaState) → IsValid s → (common : List Node) → AreHeld (content_of s) common → (n : Node)
    → IsAncestorOfOne (changesets s.history) common n ↔ IsCommon (content_of s) common n
common-are s valid common held n = (
  λ h. (h.0, h.1, leads_from_reach s.history valid.graph n h.0 h.2),
  λ h. (
    h.0,
    h.1,
    reach_from_leads s.history valid.graph n h.0
        (node_in_content s.history valid.graph h.0 (held h.0 h.1)) h.2,
  ),
)

-- a changeset of the graph that is one of these and isn't common is outgoing
pub outgoing-at : (s : ReplicaState) → IsValid s → (P : Node → Type 0) (common : List Node) (i : ℕ) (c : Contents)
    → slice_get (changesets s.history) i ≡ Some c
    → (P (node_of c) × ¬ (IsCommon (content_of s) common (node_of c))) ↔ IsOutgoing (content_of s) P common c
outgoing-at s valid P common i c at = (
  λ h. (
    content-changeset s.history valid.graph (node_of c) c
        (Contains-from_place (changesets s.history) i c at) refl,
    h.0,
    h.1,
  ),
  λ h. (h.1, h.2),
)

-- what the marks at its place tell
pub outgoing-marked : (s : ReplicaState) → IsValid s → (P : Node → Type 0) (common : List Node)
    → AreHeld (content_of s) common → (marks known : List Bool)
    → ((n : Node) → IsMarkedNode (changesets s.history) marks n ↔ P n)
    → ((n : Node) → IsMarkedNode (changesets s.history) known n ↔ IsAncestorOfOne (changesets s.history) common n)
    → (i : ℕ) (c : Contents) → slice_get (changesets s.history) i ≡ Some c
    → (IsMarked 0 marks i × ¬ (IsMarked 0 known i)) ↔ IsOutgoing (content_of s) P common c
outgoing-marked s valid P common held marks known is_marked is_known i c at =
    let cs = changesets s.history in
    let n = node_of c in
    let here = IsAt-from cs i c n at refl in
    let mark : (ms : List Bool) → IsMarked 0 ms i ↔ IsMarkedNode cs ms n = λ ms. (
      λ m. (i, here, m),
      λ h. subst (IsMarked 0 ms) (same_place (nodes cs) n i h.0 valid.graph.distinct here h.1) h.2,
    ) in
    let out = outgoing-at s valid P common i c at in
    let same = common-are s valid common held n in (
      λ h. out.0 ((is_marked n).0 ((mark marks).0 h.0), λ x. h.1 ((mark known).1 ((is_known n).1 (same.1 x)))),
      λ h.
          let x = out.1 h in
          ((mark marks).1 ((is_marked n).1 x.0), λ m. x.1 (same.0 ((is_known n).0 ((mark known).0 m)))),
    )

-- ---- answers

pub if_ok_both : {X E : Type 0} (P Q : X → Type 0) (r : Result X E) → IfOk r P → IfOk r Q → IfOk r (λ x. P x × Q x)
if_ok_both P Q (Ok x) p q = (p, q)
if_ok_both P Q (Err e) p q = tt

or_false : (a b : Bool) → (a || b) ≡ false → (a ≡ false) × (b ≡ false)
or_false true b e = absurd cc
or_false false b e = (refl, e)

-- what isn't too large is a message
pub not-too-large : (m : MessageValue) → is_too_large m ≡ false → IsMessage m
not-too-large m e =
    let many = nat_lt count_limit (length m.changesets) in
    let more = nat_lt count_limit (length m.bounds) in
    let counts = or_false (many || more) (nat_lt count_limit (length (store_spelling m.markers))) e in
    let both = or_false many more counts.0 in
    record {
      changesets = ltb-false count_limit (length m.changesets) both.0;
      bounds = ltb-false count_limit (length m.bounds) both.1;
      store =
          ltb-false count_limit (length (store_spelling m.markers)) counts.1;
    }

-- no message is too large
pub small-or-large : (m : MessageValue) → IsMessage m → is_too_large m ≡ true → ⊥
small-or-large m h e =
    true≢false (sym e ∙ rw (
      le-ltb count_limit (length m.changesets) h.changesets,
      le-ltb count_limit (length m.bounds) h.bounds,
      le-ltb count_limit (length (store_spelling m.markers)) h.store,
    )
    refl)

pub find-refused : (s : ReplicaState) (pins common : List Node) (scope : Scope) (refusal : OfferRefusal)
    → FindAnswer s pins common scope (Err refusal) → OfferAnswer s pins common scope (Err refusal)
find-refused s pins common scope (UnknownCommon n) h = h
find-refused s pins common scope TooLarge h = absurd h
find-refused s pins common scope NoMemory h = h
