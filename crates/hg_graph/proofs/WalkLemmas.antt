-- A walk down from some nodes.
use Rattle.std.proofs.Common.{◌≡◌, ◌≢◌, ℕ, suc, ◌<◌, ◌≤◌, ◌+◌, Bool, true, List, [], ◌∷◌, ◌++◌, length, take, drop}
use Rattle.std.proofs.Common.{get_or, slice_get, Some, Contains, ◌↔◌, ◌⊎◌, inl, inr}
use Rattle.std.proofs.Common.{refl, sym, ap, subst, ◌∙◌, arith, filter, cond, true≢false}
use Rattle.std.specs.List.{IsDistinct, list_any}
use Rattle.std.specs.Cmp.{IsTotalOrder, Equal-is, nat_cmp_is}
use Rattle.std.specs.Ordering.{nat_cmp}
use Rattle.std.specs.declared.cmp.Ordering.{Ordering}
use Rattle.std.specs.declared.cmp.Ordering.TheVariants.{Less, Equal, Greater}
use Rattle.std.specs.BTreeMap.{is_at}
use Rattle.std.specs.BTreeSet.{BTreeSet, IsFromIterResult, Updates, contains}
use Rattle.std.proofs.lemmas.Bool.{cases_lt, cases_order, cases_Bool}
use Rattle.std.proofs.lemmas.Cmp.{eq_by_cmp_equiv}
use Rattle.std.proofs.lemmas.List.{take_more, take-take, take-append-drop, length-take, length-map}
use Rattle.std.proofs.lemmas.List.Elements.{Contains-push, Contains-push_cases, Contains-append_left, Contains-get_or}
use Rattle.std.proofs.lemmas.Map.Lookups.{CmpEqualImpliesEq}
use Rattle.std.proofs.lemmas.Map.Views.{btree_set_contains_iff, Contains-from_any, list_any-from_Contains, tells_apart}
use Rattle.std.proofs.lemmas.Option.{slice_get_within, get_or_from_slice_get, same_Some}
use Rattle.hg_changeset.specs.declared.node.Node.{Node}
use Rattle.hg_changeset.specs.Node.{node_eq}
use Rattle.hg_changeset.specs.Contents.{Contents}
use Rattle.hg_changeset.specs.Changeset.{node_of}
use Rattle.hg_changeset.proofs.ListLemmas.{Contains-first, Contains-later, Contains-cons_cases, Contains-taken}
use Rattle.hg_changeset.proofs.NodeLemmas.{node_eq_laws, same_node}
use Rattle.hg_graph.specs.Graph.{nodes, Holds, IsGraph, Reaches, IsDescendantOfOne, Selects}
use Rattle.hg_graph.specs.Graph.Reaches.{itself, below}
use Rattle.hg_graph.specs.Places.{IsAt, IsOnlyAt, IsParentPlace, IsPlaceOfOne}
use Rattle.hg_graph.specs.Waiting.{IsFirst}
use Rattle.hg_graph.proofs.GraphLemmas.{Contains-from_place, place_from_Contains}
use Rattle.hg_graph.proofs.PlaceLemmas.{same_place, IsAt-from, place_from_Holds, Holds-reached, Holds-reaching}
use Rattle.hg_graph.proofs.PlaceLemmas.{parent_first}
use Rattle.hg_graph.proofs.MarkLemmas.{other_node}

-- ---- lists

-- the first list is the second without some elements
abbrev pub IsPart : List Node → List Node → Type 0
IsPart [] ms = Unit {0}
IsPart (n ∷ ns) [] = ⊥
IsPart (n ∷ ns) (m ∷ ms) = ((n ≡ m) × IsPart ns ms) ⊎ IsPart (n ∷ ns) ms

part_longer : (ns ms ks : List Node) → IsPart ns ms → IsPart ns (ms ++ ks)
part_longer [] ms ks h = tt
part_longer (n ∷ ns) [] ks h = absurd h
part_longer (n ∷ ns) (m ∷ ms) ks h =
    elim h [ inl k ↦ inl (k.0, part_longer ns ms ks k.1) | inr k ↦ inr (part_longer (n ∷ ns) ms ks k) ]

part_push : (ns ms : List Node) (k : Node) → IsPart ns ms → IsPart (ns ++ k ∷ []) (ms ++ k ∷ [])
part_push [] [] k h = inl (refl, tt)
part_push [] (m ∷ ms) k h = inr (part_push [] ms k tt)
part_push (n ∷ ns) [] k h = absurd h
part_push (n ∷ ns) (m ∷ ms) k h =
    elim h [ inl p ↦ inl (p.0, part_push ns ms k p.1) | inr p ↦ inr (part_push (n ∷ ns) ms k p) ]

pub part_length : (ns ms : List Node) → IsPart ns ms → length ns ≤ length ms
part_length [] ms h = omega arith
part_length (n ∷ ns) [] h = absurd h
part_length (n ∷ ns) (m ∷ ms) h =
    elim h [
      | inl p ↦ let l = part_length ns ms p.1 in omega (arith, l)
      | inr p ↦ let l = part_length (n ∷ ns) ms p in
          omega (arith, l)
    ]

part_contains : (ns ms : List Node) (k : Node) → IsPart ns ms → Contains ns k → Contains ms k
part_contains [] ms k h c = absurd (omega (arith, c.1))
part_contains (n ∷ ns) [] k h c = absurd h
part_contains (n ∷ ns) (m ∷ ms) k h c = elim h [
  | inl p ↦ elim (Contains-cons_cases n ns k c) [
    | inl e ↦ subst (Contains (m ∷ ms)) (sym p.0 ∙ e) (Contains-first m ms)
    | inr later ↦ Contains-later m ms k (part_contains ns ms k p.1 later)
  ]
  | inr p ↦ Contains-later m ms k (part_contains (n ∷ ns) ms k p c)
]

-- an element stands once
once : (m : Node) (ms : List Node) → IsDistinct node_eq (m ∷ ms) → Contains ms m → ⊥
unfolding IsDistinct
once m ms d c =
    let p = place_from_Contains ms m c in
    true≢false (sym (node_eq_laws.refl m) ∙ other_node m m ms p.0 d.0 p.1)

distinct_rest : (m : Node) (ms : List Node) → IsDistinct node_eq (m ∷ ms) → IsDistinct node_eq ms
unfolding IsDistinct
distinct_rest m ms d = d.1

-- a part is what a test selects that passes just its elements
part_filter : (test : Node → Bool) (ns ms : List Node) → IsDistinct node_eq ms → IsPart ns ms
    → ((k : Node) → Contains ns k → test k ≡ true) → ((k : Node) → Contains ms k → test k ≡ true → Contains ns k)
    → filter test ms ≡ ns
part_filter test [] [] d h passes only = refl
part_filter test [] (m ∷ ms) d h passes only = elim (cases_Bool (test m)) [
  | inl t ↦ absurd (let c = only m (Contains-first m ms) t in omega (arith, c.1))
  | inr f ↦ ap (λ b. cond b (m ∷ filter test ms) (filter test ms)) f ∙ part_filter test [] ms (distinct_rest m ms d) tt
      (λ k c. absurd (omega (arith, c.1))) (λ k c t. only k (Contains-later m ms k c) t)
]
part_filter test (n ∷ ns) [] d h passes only = absurd h
part_filter test (n ∷ ns) (m ∷ ms) d h passes only = elim h [
  | inl p ↦
      let t : test m ≡ true = subst (λ k. test k ≡ true) p.0 (passes n (Contains-first n ns)) in
      let rest = part_filter test ns ms (distinct_rest m ms d) p.1 (λ k c. passes k (Contains-later n ns k c))
      (λ k c t. elim (Contains-cons_cases n ns k (only k (Contains-later m ms k c) t)) [
        | inl e ↦ absurd (once m ms d (subst (Contains ms) (sym e ∙ p.0) c))
        | inr later ↦ later
      ]) in
      ap (λ b. cond b (m ∷ filter test ms) (filter test ms)) t ∙ (λ i. (sym p.0) i ∷ rest i)
  | inr p ↦ elim (cases_Bool (test m)) [
    | inl t ↦ absurd (once m ms d (part_contains (n ∷ ns) ms m p (only m (Contains-first m ms) t)))
    | inr f ↦ ap (λ b. cond b (m ∷ filter test ms) (filter test ms)) f
        ∙ part_filter test (n ∷ ns) ms (distinct_rest m ms d) p passes (λ k c t. only k (Contains-later m ms k c) t)
  ]
]

-- a part of the graph's nodes selects what it contains
Selects-part : (cs : List Contents) (P : Node → Type 0) (found : List Node) → IsGraph cs → IsPart found (nodes cs)
    → ((n : Node) → Holds cs n → Contains found n ↔ P n) → Selects cs P found
Selects-part cs P found graph part same = (
  λ n. list_any (node_eq n) found,
  sym (part_filter (λ n. list_any (node_eq n) found) found (nodes cs) graph.distinct part
      (λ k c. list_any-from_Contains node_eq_laws k found c) (λ k c t. Contains-from_any same_node k found t)),
  λ n held. (
    λ t. (same n held).0 (Contains-from_any same_node n found t),
    λ p. list_any-from_Contains node_eq_laws n
        found ((same n held).1 p),
  ),
)

-- ---- sets

pub along : {A B C : Type 0} → A ↔ B → B ↔ C → A ↔ C
along h k = (λ a. k.0 (h.0 a), λ c. h.1 (k.1 c))

-- one key more
pub inserted : {K : Type 0} {R : K → K → Ordering} (o : IsTotalOrder R) (exact : CmpEqualImpliesEq R) (s t : BTreeSet K)
    (k : K) → Updates R s t k true → (q : K) → Contains t.keys q ↔ (Contains s.keys q ⊎ (k ≡ q))
inserted {R = R} o exact s t k up q = (
  λ h. elim (cases_Bool (is_at (R k) q)) [
    | inl e ↦ inr (exact k q ((Equal-is (R k q)).0 e))
    | inr ne ↦ inl ((btree_set_contains_iff o exact s q).0 (sym (up.2 q ne) ∙ (btree_set_contains_iff o exact t q).1 h))
  ],
  λ h. elim h [
    | inl there ↦ elim (cases_Bool (is_at (R k) q)) [
      | inl e ↦ (btree_set_contains_iff o exact t q).0 (up.0 q ∙ ap (λ b. cond b true (contains R s q)) e)
      | inr ne ↦ (btree_set_contains_iff o exact t q).0 (up.2 q ne ∙ (btree_set_contains_iff o exact s q).1 there)
    ]
    | inr same ↦ (btree_set_contains_iff o exact t q).0 (subst (λ p. contains R t p ≡ true) same up.1)
  ],
)

-- the set has what it was collected from
pub collected : {K : Type 0} {R : K → K → Ordering} (o : IsTotalOrder R) (exact : CmpEqualImpliesEq R) (xs : List K)
    (set : BTreeSet K) → IsFromIterResult R xs set → (k : K) → Contains set.keys k ↔ Contains xs k
collected o exact xs set made k =
    let iff = btree_set_contains_iff o exact set k in (
      λ h. Contains-from_any (tells_apart exact) k xs (sym (made.0 k) ∙ iff.1 h),
      λ h. iff.0 (made.0 k ∙ list_any-from_Contains (eq_by_cmp_equiv o) k xs h),
    )

-- no key in what is empty
pub contains_none : {X : Type 0} (xs : List X) (x : X) → xs ≡ [] → Contains xs x → ⊥
contains_none xs x empty h = let h' : Contains [] x = subst (λ ys. Contains ys x) empty h in omega (arith, h'.1)

pub emptied : {X : Type 0} (xs : List X) → ¬ (0 < length xs) → xs ≡ []
emptied [] h = refl
emptied (x ∷ xs) h = absurd (h (omega arith))

-- an element more of a front
pub taken_one : {X : Type 0} (xs : List X) (i : ℕ) (d x : X) → i < length xs → Contains (take (i + 1) xs) x
    ↔ (Contains (take i xs) x ⊎ (get_or xs i d ≡ x))
taken_one xs i d x l =
    let more : take (i + 1) xs ≡ take i xs ++ get_or xs i d ∷ [] = take_more xs i d l in (
      λ h. Contains-push_cases (take i xs) (get_or xs i d) x (subst (λ ys. Contains ys x) more h),
      λ h. subst (λ ys. Contains ys x) (sym more) (elim h [
        | inl before ↦ Contains-append_left (take i xs) (get_or xs i d ∷ []) x before
        | inr e ↦ subst (Contains (take i xs ++ get_or xs i d ∷ [])) e (Contains-push (take i xs) (get_or xs i d))
      ]),
    )

-- a place was told of one of the nodes: it is held
pub place_held : (cs : List Contents) (ns : List Node) (i : ℕ) (d : Node) → i < length ns → (place : ℕ)
    → IsOnlyAt cs (get_or ns i d) place → (n : Node) × Contains ns n × Holds cs n
place_held cs ns i d l place only =
    let n = get_or ns i d in
    (n, Contains-get_or ns i d l, Contains-from_place (nodes cs) place n ((only place).1 refl))

-- the places of the nodes up to one more
module _ (cs : List Contents) (ns : List Node) (i : ℕ) (x : Node) (l : i < length ns) (there : get_or ns i x ≡ x)
    (found : List ℕ) (before : (k : ℕ) → Contains found k ↔ IsPlaceOfOne cs (take i ns) k) where
  pub placed-push : (p : ℕ) → IsOnlyAt cs x p → (k : ℕ) → Contains (found ++ p ∷ []) k
      ↔ IsPlaceOfOne cs (take (i + 1) ns) k
  placed-push p only k = (
    λ h. elim (Contains-push_cases found p k h) [
      | inl old ↦ let b = (before k).0 old in (b.0, (Contains-taken ns i x b.0 l there).1 (inl b.1), b.2)
      | inr e ↦ (x, (Contains-taken ns i x x l there).1 (inr refl), (only k).1 (sym e))
    ],
    λ h. elim ((Contains-taken ns i x h.0 l there).0 h.1) [
      | inl old ↦ Contains-append_left found (p ∷ []) k ((before k).1 (h.0, old, h.2))
      | inr e ↦ subst (Contains (found ++ p ∷ []))
          (sym ((only k).0 (subst (λ (n : Node). IsAt cs n k) (sym e) h.2))) (Contains-push found p)
    ],
  )

  pub placed-skip : ¬ (Holds cs x) → (k : ℕ) → Contains found k ↔ IsPlaceOfOne cs (take (i + 1) ns) k
  placed-skip not k = (
    λ h. let b = (before k).0 h in (b.0, (Contains-taken ns i x b.0 l there).1 (inl b.1), b.2),
    λ h. elim ((Contains-taken ns i x h.0 l there).0 h.1) [
      | inl old ↦ (before k).1 (h.0, old, h.2)
      | inr e ↦ absurd (not (subst (Holds cs) (sym e) (Contains-from_place _ k h.0 h.2)))
    ],
  )

-- one of the nodes has a place: it is held
pub placed_one : (cs : List Contents) (ns : List Node) (places : List ℕ) → places ≢ []
    → ((k : ℕ) → Contains places k ↔ IsPlaceOfOne cs ns k) → (n : Node) × Contains ns n × Holds cs n
placed_one cs ns [] some all = absurd (some refl)
placed_one cs ns (k ∷ ks) some all =
    let first = (all k).0 (Contains-first k ks) in
    (first.0, first.1, Contains-from_place (nodes cs) k first.0 first.2)

pub less_from_cmp : (x y : ℕ) → nat_cmp x y ≡ Less → x < y
less_from_cmp x y h = elim (cases_order x y) [
  | inl e ↦ absurd (let f = nat_cmp_is x y Equal e in cc)
  | inr o ↦ elim o [ inl l ↦ l | inr g ↦ absurd (let f = nat_cmp_is x y Greater g in cc) ]
]

-- ---- the walk

-- a changeset at the place is one of the nodes, or a descendant of one
abbrev pub IsDescendantPlace : List Contents → List Node → ℕ → Type 0
IsDescendantPlace cs ns k = (n : Node) × IsAt cs n k × IsDescendantOfOne cs ns n

-- what the walk has found up to the place b, and the places that wait
pub record IsWalked (cs : List Contents) (ns : List Node) (waiting : List ℕ) (found : List Node) (b : ℕ) : Type 0 where
  pub within : b ≤ length cs
  pub part : IsPart found (take b (nodes cs))
  pub sound : (n : Node) → Contains found n → IsDescendantOfOne cs ns n
  pub complete : (k : ℕ) (n : Node) → k < b → IsAt cs n k → IsDescendantOfOne cs ns n → Contains found n
  pub waits : (k : ℕ) → Contains waiting k → (b ≤ k) × IsDescendantPlace cs ns k
  pub begun : (k : ℕ) → b ≤ k → IsPlaceOfOne cs ns k → Contains waiting k
  pub followed : (j k : ℕ) → j < b → IsDescendantPlace cs ns j → IsParentPlace cs k j → b ≤ k → Contains waiting k

module _ (cs : List Contents) (graph : IsGraph cs) (ns : List Node) where
  pub IsWalked-start : (waiting : List ℕ) → ((k : ℕ) → Contains waiting k ↔ IsPlaceOfOne cs ns k)
      → IsWalked cs ns waiting [] 0
  IsWalked-start waiting given = record {
    within = omega arith;
    part = tt;
    sound = λ n c. absurd (omega (arith, c.1));
    complete = λ k n l at d. absurd (omega (arith, l));
    waits = λ k c. let h = (given k).0 c in
        (omega arith, (h.0, h.2, (h.0, h.1, itself (Contains-from_place (nodes cs) k h.0 h.2))));
    begun = λ k le h. (given k).1 h;
    followed = λ j k l d parent le. absurd (omega (arith, l));
  }

  module _ (waiting : List ℕ) (found : List Node) (b : ℕ) (s : IsWalked cs ns waiting found b) where
    -- no place before those that wait is left out
    no_gap : (w : ℕ) → ((k : ℕ) → Contains waiting k → w ≤ k) → (a n : Node) (k : ℕ) → Contains ns a → Reaches cs a n
        → IsAt cs n k → b ≤ k → w ≤ k
    no_gap w least a n k named (itself held) at le = least k (s.begun k le (a, named, at))
    no_gap w least a n k named (below {c = c} {p = p} r is at_c e) at le =
        let child = place_from_Contains cs c at_c in
        let same : child.0 ≡ k = same_place (nodes cs) n k child.0 graph.distinct at
        (IsAt-from cs child.0 c n child.1 e) in
        let up = place_from_Holds cs p (Holds-reached cs r) in
        let parent : IsParentPlace cs k up.0 = (c, p, subst (λ i. slice_get cs i ≡ Some c) same child.1, is, up.1) in
        let before : up.0 < k = parent_first cs graph k up.0 parent in
        elim (cases_lt up.0 b) [
          | inl l ↦ least k (s.followed up.0 k l (p, up.1, (a, named, r)) parent le)
          | inr ge ↦ let rest : w ≤ up.0 = no_gap w least a p up.0 named r up.1 ge in omega (arith, rest, before)
        ]

    pub IsWalked-end : ((k : ℕ) → ¬ (Contains waiting k)) → Selects cs (IsDescendantOfOne cs ns) found
    IsWalked-end empty = Selects-part cs (IsDescendantOfOne cs ns) found graph whole
        (λ n held. (λ c. s.sound n c, λ d. complete n held d))
      where
        whole : IsPart found (nodes cs)
        whole = subst (IsPart found) (take-append-drop b (nodes cs))
            (part_longer found (take b (nodes cs)) (drop b (nodes cs)) s.part)

        complete : (n : Node) → Holds cs n → IsDescendantOfOne cs ns n → Contains found n
        complete n held d =
            let p = place_from_Holds cs n held in
            elim (cases_lt p.0 b) [
              | inl l ↦ s.complete p.0 n l p.1 d
              | inr ge ↦ absurd (
                  let past = no_gap (suc p.0) (λ k c. absurd (empty k c)) d.0 n p.0 d.1 d.2 p.1 ge in
                  omega (arith, past))
            ]

    module _ (w : ℕ) (rest : List ℕ) (first : IsFirst (Contains waiting) rest w) where
      least : (k : ℕ) → Contains waiting k → w ≤ k
      least k c = elim ((first.0 k).0 c)
          [ inl e ↦ omega (arith, e) | inr later ↦ let l = first.1 k later in omega (arith, l) ]

      left : (k : ℕ) → w < k → Contains waiting k → Contains rest k
      left k l c = elim ((first.0 k).0 c) [ inl e ↦ absurd (omega (arith, e, l)) | inr later ↦ later ]

      taken : (b ≤ w) × IsDescendantPlace cs ns w
      taken = s.waits w ((first.0 w).1 (inl refl))

      pub taken_at : (n : Node) × IsAt cs n w
      taken_at = (taken.1.0, taken.1.1)

      pub taken_within : w < length cs
      taken_within = omega (arith, slice_get_within (nodes cs) w taken.1.0 taken.1.1, length-map cs node_of)

      -- the work that is left
      pub found_less : length found < length cs
      found_less = omega (
        arith,
        part_length found (take b (nodes cs)) s.part,
        length-take b (nodes cs),
        taken.0,
        taken_within,
      )

      -- a place of those that wait is one of the nodes, or below one: so one is held
      pub one_held : (n : Node) × Contains ns n × Holds cs n
      one_held = let d = taken.1.2 in (d.0, d.1, Holds-reaching cs d.2)

      pub IsWalked-step : (n : Node) → IsAt cs n w → (next : List ℕ)
          → ((k : ℕ) → Contains next k ↔ (Contains rest k ⊎ IsParentPlace cs k w))
          → IsWalked cs ns next (found ++ n ∷ []) (w + 1)
      IsWalked-step n at next adds = record {
        within = omega (arith, taken_within);
        part = subst (IsPart (found ++ n ∷ [])) (sym front)
            (part_push found (take w (nodes cs)) n
            (subst (IsPart found) longer (part_longer found (take b (nodes cs)) (drop b (take w (nodes cs))) s.part)));
        sound = λ m c. elim (Contains-push_cases found n m c)
            [ inl before ↦ s.sound m before | inr e ↦ subst (IsDescendantOfOne cs ns) e here ];
        complete = λ k m l at_m d. elim (cases_lt k b) [
          | inl before ↦ Contains-append_left found (n ∷ []) m (s.complete k m before at_m d)
          | inr ge ↦
              let k_is : k ≡ w = let h = no_gap w least d.0 m k d.1 d.2 at_m ge in omega (arith, h, l) in
              subst (Contains (found ++ n ∷ [])) (same_Some n m (sym at ∙ ap (slice_get (nodes cs)) (sym k_is) ∙ at_m))
              (Contains-push found n)
        ];
        waits = λ k c. elim ((adds k).0 c) [
          | inl later ↦ let l = first.1 k later in (omega (arith, l), (s.waits k ((first.0 k).1 (inr later))).1)
          | inr parent ↦
              let l : w < k = parent_first cs graph k w parent in
              let child = node_of parent.0 in
              let same : parent.1 ≡ n = same_Some parent.1 n (sym parent.4 ∙ at) in
              let from : Reaches cs here.0 parent.1 = subst (Reaches cs here.0) (sym same) here.2 in (
                omega (arith, l),
                (
                  child,
                  IsAt-from cs k parent.0 child parent.2 refl,
                  (here.0, here.1, below from parent.3 (Contains-from_place cs k parent.0 parent.2) refl),
                ),
              )
        ];
        begun = λ k le h. (adds k).1 (inl (left k (omega (arith, le)) (s.begun k (omega (arith, le, taken.0)) h)));
        followed = λ j k l d parent le. elim (cases_lt j b) [
          | inl before ↦
              (adds k).1 (inl (left k (omega (arith, le))
              (s.followed j k before d parent (omega (arith, le, taken.0)))))
          | inr ge ↦
              let j_is : j ≡ w = let h = no_gap w least d.2.0 d.0 j d.2.1 d.2.2 d.1 ge in omega (arith, h, l) in
              (adds k).1 (inr (subst (IsParentPlace cs k) j_is parent))
        ];
      }
        where
          here : IsDescendantOfOne cs ns n
          here = subst (IsDescendantOfOne cs ns) (same_Some taken.1.0 n (sym taken.1.1 ∙ at)) taken.1.2

          front : take (w + 1) (nodes cs) ≡ take w (nodes cs) ++ n ∷ []
          front =
              let more : take (w + 1) (nodes cs) ≡ take w (nodes cs) ++ get_or (nodes cs) w n ∷ [] =
              take_more (nodes cs) w n (slice_get_within (nodes cs) w n at) in
              more ∙ ap (λ m. take w (nodes cs) ++ m ∷ []) (get_or_from_slice_get (nodes cs) w n n at)

          longer : take b (nodes cs) ++ drop b (take w (nodes cs)) ≡ take w (nodes cs)
          longer = ap (λ ks. ks ++ drop b (take w (nodes cs))) (sym (take-take b w (nodes cs) taken.0))
              ∙ take-append-drop b (take w (nodes cs))
