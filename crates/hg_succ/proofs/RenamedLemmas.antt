-- Where each pick of the one content is one of the other in other names, so is each successors set, and there are as
-- many; an amend does no more than that.
use Rattle.std.proofs.Common.{◌≡◌, ◌≢◌, ◌⊎◌, ◌↔◌, ◌∷◌, ◌++◌, [], ℕ, List, length, Contains, inl, inr, refl, sym}
use Rattle.std.proofs.Common.{ap, subst, ◌∙◌, arith}
use Rattle.std.specs.List.Sorted.{IsStrictlySortedBy}
use Rattle.std.specs.Cmp.Lexicographic.{slice_cmp, lists_total}
use Rattle.std.proofs.lemmas.List.Elements.{Contains-append_left, Contains-append_right, Contains-append_cases}
use Rattle.std.proofs.lemmas.Map.Keys.{sorted_tail}
use Rattle.hg_changeset.specs.declared.node.Node.{Node}
use Rattle.hg_changeset.specs.Node.{node_cmp}
use Rattle.hg_changeset.proofs.NodeLemmas.{node_cmp_total, node_cases}
use Rattle.hg_changeset.proofs.ListLemmas.{Contains-first, Contains-later, Contains-none, Contains-one}
use Rattle.hg_changeset.proofs.ListLemmas.{Contains-cons_cases}
use Rattle.hg_marker.specs.Fields.{Fields}
use Rattle.hg_history.specs.Content.{IsHeld}
use Rattle.hg_replica.specs.Content.{Content}
use Rattle.hg_replica.specs.Evolution.{IsMarker, IsPredecessor, Precedes}
use Rattle.hg_replica.specs.Evolution.Precedes.{step, further}
use Rattle.hg_succ.specs.Renamed.{IsAmended, IsRenamed, AreMatched, AreRenamed}
use Rattle.hg_succ.specs.Successors.{IsAny, IsOnCycle, IsPick, IsPickOfEach, IsSuccessorsSet}
use Rattle.hg_succ.specs.Successors.{HasCount, HasCounts, IsOverfull, HasSeveral, AreWithin}
use Rattle.hg_succ.specs.Successors.IsPick.{on_cycle, itself, unknown, rewritten}
use Rattle.hg_succ.specs.Successors.IsPickOfEach.{no_places, next_place}
use Rattle.hg_succ.specs.Successors.IsOverfull.{passed_on, too_many}
use Rattle.hg_succ.proofs.AlikeLemmas.{each_zip}
use Rattle.hg_succ.proofs.FamilyLemmas.{cycle_rewritten, precedes_rewritten, pick_of_one, pick_free_held}
use Rattle.hg_succ.proofs.SingleLemmas.{AllSingle, single_not_several}
use Rattle.hg_succ.proofs.SetLemmas.{sets_exact, ascending_of}
use Rattle.hg_succ.proofs.SortedLemmas.{one_more, same_members, below_rest, not_below_itself}

-- ---- matched lists

abbrev Flip : (Node → Node → Type 0) → Node → Node → Type 0
Flip R a b = R b a

-- R pairs nodes off
record IsPairing (R : Node → Node → Type 0) : Type 0 where
  one : (a b c : Node) → R a b → R a c → b ≡ c
  into : (a b c : Node) → R a c → R b c → a ≡ b

flip-pairing : (R : Node → Node → Type 0) → IsPairing R → IsPairing (Flip R)
flip-pairing R pairs = record {
  one = λ a b c h k. pairs.into b c a h k;
  into = λ a b c h k. pairs.one c a b h k;
}

flip-matched : (R : Node → Node → Type 0) (as' bs : List Node) → AreMatched R as' bs → AreMatched (Flip R) bs as'
flip-matched R as' bs m = (m.1, m.0)

module _ (R : Node → Node → Type 0) where
  matched_none : AreMatched R [] []
  matched_none = ((λ a h. absurd (Contains-none a h)), (λ b h. absurd (Contains-none b h)))

  matched_one : (a b : Node) → R a b → AreMatched R (a ∷ []) (b ∷ [])
  matched_one a b r = (
    (λ c h. (b, Contains-first b [], subst (λ z. R z b) (Contains-one a c h) r)),
    (λ c h. (a, Contains-first a [], subst (λ z. R a z) (Contains-one b c h) r)),
  )

  matched_both : (a b c d : List Node) → AreMatched R a c → AreMatched R b d → AreMatched R (a ++ b) (c ++ d)
  matched_both a b c d m k = (
    (λ x h. elim (Contains-append_cases a b x h) [
      | inl i ↦ (let w = m.0 x i in (w.0, Contains-append_left c d w.0 w.1, w.2))
      | inr i ↦ (let w = k.0 x i in (w.0, Contains-append_right c d w.0 w.1, w.2))
    ]),
    (λ x h. elim (Contains-append_cases c d x h) [
      | inl i ↦ (let w = m.1 x i in (w.0, Contains-append_left a b w.0 w.1, w.2))
      | inr i ↦ (let w = k.1 x i in (w.0, Contains-append_right a b w.0 w.1, w.2))
    ]),
  )

  -- the order of the second, and what it has twice, say nothing
  matched_alike : (a c d : List Node) → AreMatched R a c → AreWithin c d → AreWithin d c → AreMatched R a d
  matched_alike a c d m up down = (
    (λ x h. let w = m.0 x h in (w.0, up w.0 w.1, w.2)),
    (λ x h. m.1 x (down x h)),
  )

  module _ (pairs : IsPairing R) where
    within_back : (a b c d : List Node) → AreMatched R a c → AreMatched R b d → AreWithin c d → AreWithin a b
    within_back a b c d m k within x h =
        let w = m.0 x h in
        let v = k.1 w.0 (within w.0 w.1) in
        subst (Contains b) (pairs.into v.0 x w.0 v.2 w.2) v.1

within_there : (R : Node → Node → Type 0) → IsPairing R → (a b c d : List Node) → AreMatched R a c → AreMatched R b d
    → AreWithin a b → AreWithin c d
within_there R pairs a b c d m k =
    within_back (Flip R) (flip-pairing R pairs) c d a b (flip-matched R a c m) (flip-matched R b d k)

-- ascending lists that one list is matched with are one
one_source : (R : Node → Node → Type 0) → IsPairing R → (a b c : List Node) → IsStrictlySortedBy node_cmp a
    → IsStrictlySortedBy node_cmp b → AreMatched R a c → AreMatched R b c → a ≡ b
one_source R pairs a b c up vp m k = same_members node_cmp_total a b up vp
    (within_back R pairs a b c c m k (λ x h. h)) (within_back R pairs b a c c k m (λ x h. h))

-- ---- sets, where picks are matched

-- each pick of n in the one content is matched with one in the other
record ArePicksMatched (R : Node → Node → Type 0) (f g : Content) (n : Node) : Type 0 where
  there : (q : List Node) → IsPick f n q → (r : List Node) × IsPick g n r × AreMatched R q r
  back : (r : List Node) → IsPick g n r → (q : List Node) × IsPick f n q × AreMatched R q r

flip-picks : (R : Node → Node → Type 0) (f g : Content) (n : Node) → ArePicksMatched R f g n
    → ArePicksMatched (Flip R) g f n
flip-picks R f g n picks = record {
  there = λ r h. (let w = picks.back r h in (w.0, w.1, flip-matched R w.0 r w.2));
  back = λ q h. (let w = picks.there q h in (w.0, w.1, flip-matched R q w.0 w.2));
}

module _ (R : Node → Node → Type 0) (pairs : IsPairing R) (f g : Content) (n : Node)
    (picks : ArePicksMatched R f g n) where
  set-matched : (a : List Node) → IsSuccessorsSet f n a → (b : List Node) × IsSuccessorsSet g n b × AreMatched R a b
  set-matched a is =
      let r = picks.there is.pick.0 is.pick.1 in
      let s = ascending_of r.0 in
      let m : AreMatched R is.pick.0 s.0 = matched_alike R is.pick.0 r.0 s.0 r.2 s.3 s.2 in
      let k : AreMatched R a s.0 = (
        (λ x h. m.0 x (is.pick.2 x h)),
        (λ y h. let w = m.1 y h in (w.0, is.pick.3 w.0 w.1, w.2)),
      ) in (
        s.0,
        record {
          ascending = s.1;
          some = λ e. is.some (nothing a (λ x h. let w = k.0 x h in
              Contains-none w.0 (subst (λ (l : List Node). Contains l w.0) e w.1)));
          pick = (r.0, r.1, s.2, s.3);
          largest = λ p is_pick within.
              let q = picks.back p is_pick in
              within_there R pairs q.0 a p s.0 q.2 k
              (is.largest q.0 q.1 (within_back R pairs a q.0 s.0 p k q.2 within));
        },
        k,
      )
    where
      nothing : (l : List Node) → ((x : Node) → Contains l x → ⊥) → l ≡ []
      nothing [] h = refl
      nothing (x ∷ l) h = absurd (h x (Contains-first x l))

  -- sets that are matched with these, ascending, as many
  record AreImages (family images : List (List Node)) : Type 0 where
    ascending : IsStrictlySortedBy (slice_cmp node_cmp) images
    from : (b : List Node) → Contains images b → (a : List Node) × Contains family a × IsSuccessorsSet g n b
        × AreMatched R a b
    to : (a : List Node) → Contains family a → (b : List Node) × Contains images b × AreMatched R a b
    long : length images ≡ length family

  images_of : (family : List (List Node)) → IsStrictlySortedBy (slice_cmp node_cmp) family
      → ((a : List Node) → Contains family a → IsSuccessorsSet f n a)
      → (images : List (List Node)) × AreImages family images
  unfolding IsStrictlySortedBy
  images_of [] up all = (
    [],
    record {
      ascending = tt;
      from = λ b h. absurd (Contains-none b h);
      to = λ a h. absurd (Contains-none a h);
      long = refl;
    },
  )
  images_of (a ∷ family) up all =
      let later = sorted_tail (slice_cmp node_cmp) a family up in
      let rest = images_of family later (λ c h. all c (Contains-later a family c h)) in
      let is = all a (Contains-first a family) in
      let b = set-matched a is in
      let out : ¬ (Contains rest.0 b.0) = λ h.
      let w = rest.1.from b.0 h in
      let same : a ≡ w.0 = one_source R pairs a w.0 b.0 is.ascending
      (all w.0 (Contains-later a family w.0 w.1)).ascending b.2 w.3 in
      not_below_itself (lists_total node_cmp_total) a
      (below_rest (lists_total node_cmp_total) a family a up (subst (Contains family) (sym same) w.1)) in
      let more = one_more (lists_total node_cmp_total) sets_exact b.0 rest.0 rest.1.ascending out in (
        more.0,
        record {
          ascending = more.1.ascending;
          from = λ c h. elim ((more.1.members c).0 h) [
            | inl s ↦ (a, Contains-first a family, subst (IsSuccessorsSet g n) s b.1, subst (AreMatched R a) s b.2)
            | inr k ↦ (let w = rest.1.from c k in (w.0, Contains-later a family w.0 w.1, w.2, w.3))
          ];
          to = λ c h. elim (Contains-cons_cases a family c h) [
            | inl s ↦ (b.0, (more.1.members b.0).1 (inl refl), subst (λ (l : List Node). AreMatched R l b.0) s b.2)
            | inr k ↦ (let w = rest.1.to c k in (w.0, (more.1.members w.0).1 (inr w.1), w.2))
          ];
          long = (let l = more.1.longer in let k = rest.1.long in omega (arith, l, k));
        },
      )

module _ (R : Node → Node → Type 0) (pairs : IsPairing R) (f g : Content) (n : Node)
    (picks : ArePicksMatched R f g n) where
  set-matched_back : (b : List Node) → IsSuccessorsSet g n b
      → (a : List Node) × IsSuccessorsSet f n a × AreMatched R a b
  set-matched_back b is =
      let w = set-matched (Flip R) (flip-pairing R pairs) g f n (flip-picks R f g n picks) b is in
      (w.0, w.1, flip-matched (Flip R) b w.0 w.2)

  count-matched : (count : ℕ) → HasCount f n count → HasCount g n count
  count-matched count h =
      let images = images_of R pairs f g n picks h.0 h.1.ascending (λ a i. (h.1.exact a).0 i) in (
        images.0,
        record {
          ascending = images.1.ascending;
          exact = λ b. (
            λ i. (images.1.from b i).2,
            λ is.
                let a = set-matched_back b is in
                let c = images.1.to a.0 ((h.1.exact a.0).1 a.1) in
                let d = images.1.from c.0 c.1 in
                let same : c.0 ≡ b = one_source (Flip R) (flip-pairing R pairs) c.0 b a.0 d.2.ascending is.ascending
                (flip-matched R a.0 c.0 c.2) (flip-matched R a.0 b a.2) in
                subst (Contains images.0) same c.1,
          );
        },
        images.1.long ∙ h.2,
      )

  two-matched : (a b : List Node) → IsSuccessorsSet f n a → IsSuccessorsSet f n b → a ≢ b
      → (c d : List Node) × IsSuccessorsSet g n c × IsSuccessorsSet g n d × (c ≢ d)
  two-matched a b is so apart =
      let c = set-matched R pairs f g n picks a is in
      let d = set-matched R pairs f g n picks b so in (
        c.0,
        d.0,
        c.1,
        d.1,
        λ e. apart (one_source R pairs a b c.0 is.ascending so.ascending c.2 (subst (AreMatched R b) (sym e) d.2)),
      )

-- ---- what is overfull

-- the same markers rewrote n, to nodes of which P holds
record IsUnaffected (P : Node → Type 0) (f g : Content) (n : Node) : Type 0 where
  cycle : IsOnCycle f n ↔ IsOnCycle g n
  markers : (m : Fields) → m.predecessor ≡ n → IsMarker f m ↔ IsMarker g m
  closed : (m : Fields) (y : Node) → IsMarker f m → m.predecessor ≡ n → Contains m.successors y → P y

-- of the nodes of which P holds the picks are matched, and each is overfull in neither content, or kept
record AreTranslated (P : Node → Type 0) (R : Node → Node → Type 0) (f g : Content) : Type 0 where
  pairs : IsPairing R
  picks : (n : Node) → P n → ArePicksMatched R f g n
  kept : (n : Node) → P n → ((¬ (IsOverfull f n)) × (¬ (IsOverfull g n))) ⊎ IsUnaffected P f g n

flip-unaffected : (P : Node → Type 0) (f g : Content) (n : Node) → IsUnaffected P f g n → IsUnaffected P g f n
flip-unaffected P f g n k = record {
  cycle = (k.cycle.1, k.cycle.0);
  markers = λ m at. ((k.markers m at).1, (k.markers m at).0);
  closed = λ m y held at h. k.closed m y ((k.markers m at).1 held) at h;
}

flip-translated : (P : Node → Type 0) (R : Node → Node → Type 0) (f g : Content) → AreTranslated P R f g
    → AreTranslated P (Flip R) g f
flip-translated P R f g t = record {
  pairs = flip-pairing R t.pairs;
  picks = λ n so. flip-picks R f g n (t.picks n so);
  kept = λ n so. elim (t.kept n so) [
    | inl few ↦ inl (few.1, few.0)
    | inr k ↦ inr (flip-unaffected P f g n k)
  ];
}

module _ (P : Node → Type 0) (R : Node → Node → Type 0) (f g : Content) (t : AreTranslated P R f g) where
  counts-matched : (n : Node) (m : Fields) (counts : List ℕ) → IsUnaffected P f g n → m.predecessor ≡ n → IsMarker f m
      → HasCounts f m counts → HasCounts g m counts
  counts-matched n m counts k at held = each_zip (HasCount f) (HasCount g) m.successors counts
      (λ y count i has. count-matched R t.pairs f g y (t.picks y (k.closed m y held at i)) count has)

  overfull-matched : (n : Node) → P n → IsOverfull f n → IsOverfull g n
  overfull-matched n so (passed_on {x = y} off to over) = elim (t.kept n so) [
    | inl few ↦ absurd (few.0 (passed_on {x = y} off to over))
    | inr k ↦ passed_on {x = y} (λ on. off (k.cycle.1 on)) (to.0, (k.markers to.0 to.2).0 to.1, to.2, to.3)
        (overfull-matched y (k.closed to.0 y to.1 to.2 to.3) over)
  ]
  overfull-matched n so (too_many ms counts off are zip many) = elim (t.kept n so) [
    | inl few ↦ absurd (few.0 (too_many ms counts off are zip many))
    | inr k ↦ too_many ms counts (λ on. off (k.cycle.1 on))
        (record {
          different = are.different;
          exact = λ m. (
            λ h. let of-m = (are.exact m).0 h in ((k.markers m of-m.1).0 of-m.0, of-m.1),
            λ h. (are.exact m).1 ((k.markers m h.1).1 h.0, h.1),
          );
        })
        (each_zip (HasCounts f) (HasCounts g) ms counts
        (λ m cs i has. let of-m = (are.exact m).0 i in counts-matched n m cs k of-m.1 of-m.0 has) zip) many
  ]

  several-matched : (n : Node) → P n → HasSeveral f n → HasSeveral g n
  several-matched n so (inl over) = inl (overfull-matched n so over)
  several-matched n so (inr two) = inr (two-matched R t.pairs f g n (t.picks n so) two.0 two.1 two.2 two.3 two.4)

-- ---- an amend

renaming_pairs : (p x : Node) → IsPairing (IsRenamed p x)
renaming_pairs p x = record {
  one = λ a b c h k. one a b c h k;
  into = λ a b c h k. into a b c h k;
}
  where
    one : (a b c : Node) → IsRenamed p x a b → IsRenamed p x a c → b ≡ c
    one a b c (inl h) (inl k) = h.1 ∙ sym k.1
    one a b c (inl h) (inr k) = absurd (k.0 h.0)
    one a b c (inr h) (inl k) = absurd (h.0 k.0)
    one a b c (inr h) (inr k) = sym h.2 ∙ k.2

    into : (a b c : Node) → IsRenamed p x a c → IsRenamed p x b c → a ≡ b
    into a b c (inl h) (inl k) = h.0 ∙ sym k.0
    into a b c (inl h) (inr k) = absurd (k.1 (k.2 ∙ h.1))
    into a b c (inr h) (inl k) = absurd (h.1 (h.2 ∙ k.1))
    into a b c (inr h) (inr k) = h.2 ∙ sym k.2

-- a node that no marker rewrote leads to nothing
free_single : (f : Content) (n : Node) → ¬ (IsPredecessor f n) → AllSingle f n
free_single f n free y (inl e) = λ a b held other at from. absurd (free (a, held, at ∙ sym e))
free_single f n free y (inr r) = absurd (free (precedes_rewritten f n y r))

module _ (p x : Node) (fresh : Fields) (f g : Content) (am : IsAmended p x fresh f g) where
  old-marker : (m : Fields) → IsMarker f m → IsMarker g m
  old-marker m held = (am.markers m).1 (inl held)

  fresh-marker : IsMarker g fresh
  fresh-marker = (am.markers fresh).1 (inr refl)

  different : p ≢ x
  different e = am.not_held (subst (IsHeld f.0) e am.held_before)

  new_free : ¬ (IsPredecessor f x)
  new_free h = (am.not_known h.0 h.1).0 h.2

  new_last : ¬ (IsPredecessor g x)
  new_last h = elim ((am.markers h.0).0 h.1) [
    | inl old ↦ new_free (h.0, old, h.2)
    | inr is ↦ different (sym am.predecessor ∙ ap (λ m. m.predecessor) (sym is) ∙ h.2)
  ]

  -- the fresh marker leads to x alone
  fresh_to : (m : Fields) (y : Node) → m ≡ fresh → Contains m.successors y → y ≡ x
  fresh_to m y is h = sym (Contains-one x y
      (subst (λ (l : List Node). Contains l y) (ap (λ m. m.successors) is ∙ am.successors) h))

  fresh_of : (m : Fields) → m ≡ fresh → m.predecessor ≡ p
  fresh_of m is = ap (λ m. m.predecessor) is ∙ am.predecessor

  -- p has the fresh marker alone
  marker_of : (m : Fields) → IsMarker g m → m.predecessor ≡ p → m ≡ fresh
  marker_of m held at = elim ((am.markers m).0 held) [
    | inl old ↦ absurd (am.not_rewritten (m, old, at))
    | inr is ↦ is
  ]

  -- ---- steps

  precedes_there : (a b : Node) → Precedes f IsAny a b → Precedes g IsAny a b
  precedes_there a b (step {m = m} held kind at is) = step (old-marker m held) kind at is
  precedes_there a b (further {m = m} held kind at r) =
      further (old-marker m held) kind at (precedes_there a m.predecessor r)

  precedes_back : (a b : Node) → b ≢ x → Precedes g IsAny a b → Precedes f IsAny a b
  precedes_back a b so (step {m = m} held kind at is) = elim ((am.markers m).0 held) [
    | inl old ↦ step old kind at is
    | inr same ↦ absurd (so (fresh_to m b same at))
  ]
  precedes_back a b so (further {m = m} held kind at r) = elim ((am.markers m).0 held) [
    | inl old ↦ further old kind at (precedes_back a m.predecessor (am.not_known m old).0 r)
    | inr same ↦ absurd (so (fresh_to m b same at))
  ]

  cycles : (n : Node) → n ≢ x → IsOnCycle f n ↔ IsOnCycle g n
  cycles n so = (precedes_there n n, precedes_back n n so)

  amended_off : ¬ (IsOnCycle g p)
  amended_off on = am.not_rewritten (cycle_rewritten f p ((cycles p different).1 on))

  -- p leads to x alone
  leads_to_new : (b : Node) → Precedes g IsAny p b → b ≡ x
  leads_to_new b (step {m = m} held kind at is) = fresh_to m b (marker_of m held is) at
  leads_to_new b (further {m = m} held kind at r) = absurd (new_last (m, held, leads_to_new m.predecessor r))

  amended_single : AllSingle g p
  amended_single y (inl e) = λ a b held other at from.
      marker_of a held (at ∙ sym e) ∙ sym (marker_of b other (from ∙ sym e))
  amended_single y (inr r) = λ a b held other at from. absurd (new_last (a, held, at ∙ leads_to_new y r))

  -- ---- picks

  free_back : (n : Node) → ¬ (IsPredecessor g n) → ¬ (IsPredecessor f n)
  free_back n free h = free (h.0, old-marker h.0 h.1, h.2)

  free_there : (n : Node) → n ≢ p → ¬ (IsPredecessor f n) → ¬ (IsPredecessor g n)
  free_there n other free h = elim ((am.markers h.0).0 h.1) [
    | inl old ↦ free (h.0, old, h.2)
    | inr same ↦ other (sym h.2 ∙ fresh_of h.0 same)
  ]

  -- p itself became x
  pick_new : IsPick g p (x ∷ [])
  pick_new =
      let first : IsPick g x (x ∷ []) = itself new_last am.held in
      let all : IsPickOfEach g (x ∷ []) (x ∷ []) = next_place first no_places in
      rewritten fresh fresh-marker am.predecessor amended_off
      (subst (λ ns. IsPickOfEach g ns (x ∷ [])) (sym am.successors) all)

  -- and nothing else
  pick_is_new : (m : Fields) (q : List Node) → m ≡ fresh → IsPickOfEach g m.successors q → q ≡ x ∷ []
  pick_is_new m q same picks = pick_free_held g x q new_last am.held
      (pick_of_one g x m.successors q (ap (λ (k : Fields). k.successors) same ∙ am.successors) picks)

  abbrev ThereIs : Node → List Node → Type 0
  ThereIs n q = (r : List Node) × IsPick g n r × AreRenamed p x q r

  abbrev BackIs : Node → List Node → Type 0
  BackIs n r = (q : List Node) × IsPick f n q × AreRenamed p x q r

  itself_there : (n : Node) → n ≢ x → ¬ (IsPredecessor f n) → IsHeld f.0 n → ThereIs n (n ∷ [])
  itself_there n so free held = elim (node_cases n p) [
    | inl is ↦ (
      x ∷ [],
      subst (λ k. IsPick g k (x ∷ [])) (sym is) pick_new,
      matched_one (IsRenamed p x) n x (inl (is, refl)),
    )
    | inr other ↦ (
      n ∷ [],
      itself (free_there n other free) ((am.others n so).0 held),
      matched_one (IsRenamed p x) n n (inr (other, so, refl)),
    )
  ]

  not_amended : (n : Node) → ¬ (IsPredecessor g n) → n ≢ p
  not_amended n free is = free (fresh, fresh-marker, am.predecessor ∙ sym is)

  was_not_amended : (n : Node) → ¬ (IsHeld f.0 n) → n ≢ p
  was_not_amended n missing is = missing (subst (IsHeld f.0) (sym is) am.held_before)

  mutual
    pick_there : (n : Node) (q : List Node) → n ≢ x → IsPick f n q → ThereIs n q
    pick_there n q so (on_cycle on) = ([], on_cycle ((cycles n so).0 on), matched_none (IsRenamed p x))
    pick_there n q so (itself free held) = itself_there n so free held
    pick_there n q so (unknown free missing) = (
      [],
      unknown (free_there n (was_not_amended n missing) free) (λ h. missing ((am.others n so).1 h)),
      matched_none (IsRenamed p x),
    )
    pick_there n q so (rewritten m held at off picks) =
        let r = picks_there m.successors q
        (λ y h is. (am.not_known m held).1 (subst (Contains m.successors) is h)) picks in
        (r.0, rewritten m (old-marker m held) at (λ on. off ((cycles n so).1 on)) r.1, r.2)

    picks_there : (ns q : List Node) → ((y : Node) → Contains ns y → y ≢ x) → IsPickOfEach f ns q
        → (r : List Node) × IsPickOfEach g ns r × AreRenamed p x q r
    picks_there [] q all no_places = ([], no_places, matched_none (IsRenamed p x))
    picks_there (n ∷ ns) q all (next_place {pick = a} {picks = as'} first rest) =
        let b = pick_there n a (all n (Contains-first n ns)) first in
        let bs = picks_there ns as' (λ y h. all y (Contains-later n ns y h)) rest in
        (b.0 ++ bs.0, next_place b.1 bs.1, matched_both (IsRenamed p x) a as' b.0 bs.0 b.2 bs.2)

  mutual
    pick_back : (n : Node) (r : List Node) → n ≢ x → IsPick g n r → BackIs n r
    pick_back n r so (on_cycle on) = ([], on_cycle ((cycles n so).1 on), matched_none (IsRenamed p x))
    pick_back n r so (itself free held) = (
      n ∷ [],
      itself (free_back n free) ((am.others n so).1 held),
      matched_one (IsRenamed p x) n n (inr (not_amended n free, so, refl)),
    )
    pick_back n r so (unknown free missing) =
        ([], unknown (free_back n free) (λ h. missing ((am.others n so).0 h)), matched_none (IsRenamed p x))
    pick_back n r so (rewritten m held at off picks) = elim ((am.markers m).0 held) [
      | inl old ↦
          (let q = picks_back m.successors r
          (λ y h is. (am.not_known m old).1 (subst (Contains m.successors) is h)) picks in
          (q.0, rewritten m old at (λ on. off ((cycles n so).0 on)) q.1, q.2))
      | inr same ↦
          (let is : n ≡ p = sym at ∙ fresh_of m same in (
            p ∷ [],
            subst (λ k. IsPick f k (p ∷ [])) (sym is) (itself am.not_rewritten am.held_before),
            subst (AreRenamed p x (p ∷ [])) (sym (pick_is_new m r same picks))
                (matched_one (IsRenamed p x) p x (inl (refl, refl))),
          ))
    ]

    picks_back : (ns r : List Node) → ((y : Node) → Contains ns y → y ≢ x) → IsPickOfEach g ns r
        → (q : List Node) × IsPickOfEach f ns q × AreRenamed p x q r
    picks_back [] r all no_places = ([], no_places, matched_none (IsRenamed p x))
    picks_back (n ∷ ns) r all (next_place {pick = b} {picks = bs} first rest) =
        let a = pick_back n b (all n (Contains-first n ns)) first in
        let as' = picks_back ns bs (λ y h. all y (Contains-later n ns y h)) rest in
        (a.0 ++ as'.0, next_place a.1 as'.1, matched_both (IsRenamed p x) a.0 as'.0 b bs a.2 as'.2)

  -- ---- so it renames

  new_few : (¬ (HasSeveral f x)) × (¬ (HasSeveral g x))
  new_few =
      (single_not_several f x (free_single f x new_free), single_not_several g x (free_single g x new_last))

  amended_few : (¬ (HasSeveral f p)) × (¬ (HasSeveral g p))
  amended_few =
      (single_not_several f p (free_single f p am.not_rewritten), single_not_several g p amended_single)

  pub amend_few : (n : Node) → (n ≡ p) ⊎ (n ≡ x) → (¬ (HasSeveral f n)) × (¬ (HasSeveral g n))
  amend_few n (inl is) =
      subst (λ k. (¬ (HasSeveral f k)) × (¬ (HasSeveral g k))) (sym is) amended_few
  amend_few n (inr is) = subst (λ k. (¬ (HasSeveral f k)) × (¬ (HasSeveral g k))) (sym is) new_few

  -- a node other than p has the same markers in both
  amend_keeps : (n : Node) → n ≢ x → n ≢ p → IsUnaffected (λ k. k ≢ x) f g n
  amend_keeps n so other = record {
    cycle = cycles n so;
    markers = λ m at. (
      old-marker m,
      λ held. elim ((am.markers m).0 held) [
        | inl old ↦ old
        | inr same ↦ absurd (other (sym at ∙ fresh_of m same))
      ],
    );
    closed = λ m y held at h is. (am.not_known m held).1 (subst (Contains m.successors) is h);
  }

  amend_kept : (n : Node) → n ≢ x
      → ((¬ (IsOverfull f n)) × (¬ (IsOverfull g n))) ⊎ IsUnaffected (λ k. k ≢ x) f g n
  amend_kept n so = elim (node_cases n p) [
    | inl is ↦ inl ((λ h. (amend_few n (inl is)).0 (inl h)), (λ h. (amend_few n (inl is)).1 (inl h)))
    | inr other ↦ inr (amend_keeps n so other)
  ]

  amend_translates : AreTranslated (λ k. k ≢ x) (IsRenamed p x) f g
  amend_translates = record {
    pairs = renaming_pairs p x;
    picks = λ n so. record { there = λ q h. pick_there n q so h; back = λ r h. pick_back n r so h };
    kept = amend_kept;
  }

  amend_back : AreTranslated (λ k. k ≢ x) (Flip (IsRenamed p x)) g f
  amend_back = flip-translated (λ k. k ≢ x) (IsRenamed p x) f g amend_translates

  pub amend_sets : (n : Node) (a : List Node) → n ≢ x → IsSuccessorsSet f n a
      → (b : List Node) × IsSuccessorsSet g n b × AreRenamed p x a b
  amend_sets n a so =
      set-matched (IsRenamed p x) (renaming_pairs p x) f g n (amend_translates.picks n so) a

  pub amend_sets_back : (n : Node) (b : List Node) → n ≢ x → IsSuccessorsSet g n b
      → (a : List Node) × IsSuccessorsSet f n a × AreRenamed p x a b
  amend_sets_back n b so =
      set-matched_back (IsRenamed p x) (renaming_pairs p x) f g n (amend_translates.picks n so) b

  pub amend_overfull : (n : Node) → n ≢ x → IsOverfull f n ↔ IsOverfull g n
  amend_overfull n so = (
    overfull-matched (λ k. k ≢ x) (IsRenamed p x) f g amend_translates n so,
    overfull-matched (λ k. k ≢ x) (Flip (IsRenamed p x)) g f amend_back n so,
  )

  pub amend_several : (n : Node) → n ≢ x → HasSeveral f n ↔ HasSeveral g n
  amend_several n so = (
    several-matched (λ k. k ≢ x) (IsRenamed p x) f g amend_translates n so,
    several-matched (λ k. k ≢ x) (Flip (IsRenamed p x)) g f amend_back n so,
  )
