-- Members of lists that are made from others, and the largest of some sets.
use Rattle.std.proofs.Common.{◌≡◌, ◌≢◌, take, nat_cmp, IsPermutation, ℕ, zero, suc, ◌+◌, ◌<◌, ◌≤◌, Bool, true, false}
use Rattle.std.proofs.Common.{cond, not, List, [], ◌∷◌, ◌++◌, length, map, filter, Contains, ◌⊎◌, ◌↔◌, inl, inr, refl}
use Rattle.std.proofs.Common.{sym, ap, subst, ◌∙◌, arith, true≢false, eqb, Vec, Global, nat_lt, get_or}
use Rattle.std.specs.List.{dedup, flat_map, list_any, list_all, AllByRecursion}
use Rattle.std.specs.List.Sorted.{IsStrictlySortedBy, IsSorted}
use Rattle.std.specs.Ordering.{is_eq}
use Rattle.std.specs.declared.cmp.Ordering.TheVariants.{Less}
use Rattle.std.specs.Cmp.{unsigned_Decides, unsigned_ties, IsEquivalence, IsTotalOrder}
use Rattle.std.specs.declared.cmp.Ordering.{Ordering}
use Rattle.std.specs.Cmp.Lexicographic.{slice_cmp, lists_ties, lists_total, lists_equiv, pointwise, pointwise_decides}
use Rattle.std.proofs.lemmas.List.Folds.{Any-from_list_any, list_any_at, list_all_at}
use Rattle.std.proofs.lemmas.Map.Keys.{sorted_tail}
use Rattle.std.proofs.lemmas.Map.Lookups.{CmpEqualImpliesEq}
use Rattle.std.proofs.lemmas.Bool.{cases_Bool, and_parts, and_from, lt-ltb, ltb-true}
use Rattle.std.proofs.lemmas.List.Elements.{Contains-push, Contains-push_cases, Contains-append_left}
use Rattle.std.proofs.lemmas.List.Elements.{Contains-append_right, Contains-append_cases, filter-append}
use Rattle.std.proofs.lemmas.List.Kept.{IsStrictlySortedBy-filter, IsStrictlySortedBy-dedup, Contains-dedup}
use Rattle.std.proofs.lemmas.List.Kept.{Contains-from_dedup, Any-dedup}
use Rattle.std.proofs.lemmas.List.Sorted.{Contains-permutation, IsPermutation-sym}
use Rattle.std.proofs.lemmas.Cmp.{on_total, on_equiv}
use Rattle.std.proofs.lemmas.List.{append-nil, append_assoc, take_more, map-append}
use Rattle.hg_changeset.specs.declared.node.Node.{Node}
use Rattle.hg_changeset.specs.Node.{node_cmp, node_eq}
use Rattle.hg_changeset.proofs.NodeLemmas.{node_eq_laws, same_node, node_itself, node_cmp_total, node_cmp_exact}
use Rattle.hg_changeset.proofs.NodeLemmas.{same_not_less}
use Rattle.hg_succ.specs.Successors.{AreWithin}
use Rattle.hg_succ.specs.Answer.{sets_of}
use Rattle.hg_succ.specs.Unions.{IsSetOf, AreSetsOf, AreLargest, is_within, is_within_larger, is_largest, products}
use Rattle.hg_succ.specs.Unions.{with_sets, choices_on, IsChoice}
use Rattle.hg_obsstore.proofs.IndexLemmas.{among_or_not}
use Rattle.hg_succ.proofs.SortedLemmas.{below_rest, one_more}
use Rattle.hg_succ.proofs.NumberLemmas.{more_of}
use Rattle.hg_changeset.proofs.ListLemmas.{Contains-cons_cases, Contains-later, Contains-first, Contains-none}
use Rattle.hg_changeset.proofs.ListLemmas.{Contains-map, Contains-map_from}

module _ {X Y : Type 0} (f : X → List Y) where
  pub contains_flat : (xs : List X) (x : X) (y : Y) → Contains xs x → Contains (f x) y → Contains (flat_map f xs) y
  contains_flat [] x y h g = absurd (Contains-none x h)
  contains_flat (z ∷ xs) x y h g = elim (Contains-cons_cases z xs x h) [
    | inl same ↦ Contains-append_left (f z) (flat_map f xs) y (subst (λ w. Contains (f w) y) (sym same) g)
    | inr later ↦ Contains-append_right (f z) (flat_map f xs) y (contains_flat xs x y later g)
  ]

  pub flat_contains : (xs : List X) (y : Y) → Contains (flat_map f xs) y → (x : X) × Contains xs x × Contains (f x) y
  flat_contains [] y h = absurd (Contains-none y h)
  flat_contains (z ∷ xs) y h = elim (Contains-append_cases (f z) (flat_map f xs) y h) [
    | inl here ↦ (z, Contains-first z xs, here)
    | inr later ↦ (let r = flat_contains xs y later in (r.0, Contains-later z xs r.0 r.1, r.2))
  ]

not_true : (b : Bool) → not b ≡ true → b ≡ false
not_true true h = absurd (true≢false (sym h))
not_true false h = refl

module _ {X : Type 0} (p : X → Bool) where
  pub filter_take : (x : X) (xs : List X) → p x ≡ true → filter p (x ∷ xs) ≡ x ∷ filter p xs
  filter_take x xs e = ap (λ b. cond b (x ∷ filter p xs) (filter p xs)) e

  pub filter_drop : (x : X) (xs : List X) → p x ≡ false → filter p (x ∷ xs) ≡ filter p xs
  filter_drop x xs e = ap (λ b. cond b (x ∷ filter p xs) (filter p xs)) e

  pub contains_filter : (xs : List X) (x : X) → Contains xs x → p x ≡ true → Contains (filter p xs) x
  contains_filter [] x h e = absurd (Contains-none x h)
  contains_filter (z ∷ xs) x h e = elim (Contains-cons_cases z xs x h) [
    | inl same ↦
        (let ez : p z ≡ true = ap p same ∙ e in subst (λ (ys : List X). Contains ys x) (sym (filter_take z xs ez))
        (subst (Contains (z ∷ filter p xs)) same (Contains-first z (filter p xs))))
    | inr later ↦ elim (cases_Bool (p z)) [
      | inl yes' ↦ subst (λ (ys : List X). Contains ys x) (sym (filter_take z xs yes'))
          (Contains-later z (filter p xs) x (contains_filter xs x later e))
      | inr no' ↦ subst (λ (ys : List X). Contains ys x) (sym (filter_drop z xs no')) (contains_filter xs x later e)
    ]
  ]

  pub filter_contains : (xs : List X) (x : X) → Contains (filter p xs) x → Contains xs x × (p x ≡ true)
  filter_contains [] x h = absurd (Contains-none x h)
  filter_contains (z ∷ xs) x h = elim (cases_Bool (p z)) [
    | inl yes' ↦
        elim (Contains-cons_cases z (filter p xs) x
        (subst (λ (ys : List X). Contains ys x) (filter_take z xs yes') h)) [
          | inl same ↦ (subst (Contains (z ∷ xs)) same (Contains-first z xs), sym (ap p same) ∙ yes')
          | inr later ↦ (let r = filter_contains xs x later in (Contains-later z xs x r.0, r.1))
        ]
    | inr no' ↦ (let r = filter_contains xs x (subst (λ (ys : List X). Contains ys x) (filter_drop z xs no') h) in
        (Contains-later z xs x r.0, r.1))
  ]

  pub any_has : (xs : List X) → list_any p xs ≡ true → (x : X) × Contains xs x × (p x ≡ true)
  any_has xs h = let a = Any-from_list_any p xs h in (a.1, (a.0, a.2, a.3), a.4)

  pub has_any : (xs : List X) (x : X) → Contains xs x → p x ≡ true → list_any p xs ≡ true
  has_any xs x h e = list_any_at p xs h.0 x h.1 (ap p h.2 ∙ e)

  pub all_has : (xs : List X) → list_all p xs ≡ true → (x : X) → Contains xs x → p x ≡ true
  all_has [] h x g = absurd (Contains-none x g)
  all_has (z ∷ xs) h x g =
      let both = and_parts (p z) (list_all p xs) h in
      elim (Contains-cons_cases z xs x g)
      [ inl same ↦ ap p (sym same) ∙ both.0 | inr later ↦ all_has xs both.1 x later ]

  pub has_all : (xs : List X) → ((x : X) → Contains xs x → p x ≡ true) → list_all p xs ≡ true
  has_all [] h = refl
  has_all (z ∷ xs) h = and_from (p z) (list_all p xs) (h z (Contains-first z xs))
      (has_all xs (λ x g. h x (Contains-later z xs x g)))

-- the test says whether each member is one of the other
pub within_by_test : (set other : List Node) → is_within set other ≡ true → AreWithin set other
within_by_test set other h x g =
    let r = any_has (λ y. node_eq y x) other (all_has (λ z. list_any (λ y. node_eq y z) other) set h x g) in
    subst (Contains other) (same_node r.0 x r.2) r.1

pub test_by_within : (set other : List Node) → AreWithin set other → is_within set other ≡ true
test_by_within set other w = has_all (λ z. list_any (λ y. node_eq y z) other) set
    (λ x g. has_any (λ y. node_eq y x) other x (w x g) (node_itself x x refl))

-- a set within another is that one, or smaller
less_both : (x y : Node) → node_cmp x y ≡ Less → node_cmp y x ≡ Less → ⊥
less_both x y a b = (let e = node_cmp_total.antisymm x y in cc (sym a ∙ e, b))

pub same_or_smaller : (xs ys : List Node) → IsStrictlySortedBy node_cmp xs → IsStrictlySortedBy node_cmp ys
    → AreWithin xs ys → (xs ≡ ys) ⊎ (length xs < length ys)
same_or_smaller [] [] up vp w = inl refl
same_or_smaller [] (y ∷ ys) up vp w = inr (omega arith)
same_or_smaller (x ∷ xs) [] up vp w = absurd (Contains-none x (w x (Contains-first x xs)))
same_or_smaller (x ∷ xs) (y ∷ ys) up vp w = elim (Contains-cons_cases y ys x (w x (Contains-first x xs))) [
  | inl same ↦
      -- the first is the first: the others are among the others
      elim (same_or_smaller xs ys (sorted_tail node_cmp x xs up) (sorted_tail node_cmp y ys vp)
      (λ z g. elim (Contains-cons_cases y ys z (w z (Contains-later x xs z g))) [
        | inl first ↦ absurd (same_not_less x z (sym same ∙ first) (below_rest node_cmp_total x xs z up g))
        | inr later ↦ later
      ])) [
        | inl e ↦ inl ((λ i. sym same i ∷ xs) ∙ ap (λ (zs : List Node). y ∷ zs) e)
        | inr l ↦ inr (omega arith)
      ]
  | inr later ↦
      -- the first comes later: so do all
      elim (same_or_smaller (x ∷ xs) ys up (sorted_tail node_cmp y ys vp)
      (λ z g. elim (Contains-cons_cases y ys z (w z g)) [
        | inl first ↦ elim (Contains-cons_cases x xs z g) [
          | inl at ↦ absurd (same_not_less y x (first ∙ sym at) (below_rest node_cmp_total y ys x vp later))
          | inr in' ↦ absurd
              (less_both x y (subst (λ v. node_cmp x v ≡ Less) (sym first) (below_rest node_cmp_total x xs z up in'))
              (below_rest node_cmp_total y ys x vp later))
        ]
        | inr there ↦ there
      ])) [
        | inl e ↦ inr (omega (arith, ap length e))
        | inr l ↦ inr (omega arith)
      ]
]

pub nothing_within : (xs : List Node) → AreWithin xs [] → xs ≡ []
nothing_within [] w = refl
nothing_within (x ∷ xs) w = absurd (Contains-none x (w x (Contains-first x xs)))

-- a length that no set exceeds
pub longest_of : (sets : List (List Node)) → (n : ℕ) × ((set : List Node) → Contains sets set → length set ≤ n)
longest_of [] = (0, λ set h. absurd (Contains-none set h))
longest_of (s ∷ sets) =
    let r = longest_of sets in (
      length s + r.0,
      λ set h. elim (Contains-cons_cases s sets set h)
          [ inl same ↦ omega (arith, ap length same) | inr later ↦ (let l = r.1 set later in omega arith) ],
    )

empty_by_length : (set : List Node) → eqb (length set) 0 ≡ true → set ≡ []
empty_by_length [] h = refl
empty_by_length (x ∷ xs) h = absurd (omega (arith, (unsigned_Decides (suc (length xs)) 0).0 h))

module _ (sets : List (List Node)) where
  larger_one : (set other : List Node) → is_within_larger set other ≡ true → (length set < length other)
      × AreWithin set other
  larger_one set other h = let both = and_parts (nat_lt (length set) (length other)) (is_within set other) h in
      (ltb-true (length set) (length other) both.0, within_by_test set other both.1)

  LargestAbove : List Node → Type 0
  LargestAbove set = (set ≡ [])
      ⊎ ((big : List Node) × Contains sets big × (is_largest sets big ≡ true) × AreWithin set big)

  -- a set is empty, or the largest, or within a larger one
  look : (set : List Node) → Contains sets set
      → ((other : List Node) → Contains sets other → length set < length other → AreWithin set other → LargestAbove set)
      → LargestAbove set
  unfolding LargestAbove
  look set h up = elim (cases_Bool (eqb (length set) 0)) [
    | inl empty ↦ inl (empty_by_length set empty)
    | inr some ↦ elim (cases_Bool (list_any (is_within_larger set) sets)) [
      | inr none ↦
          inr (
            set,
            h,
            and_from (not (eqb (length set) 0)) (not (list_any (is_within_larger set) sets)) (ap not some)
                (ap not none),
            λ x g. g,
          )
      | inl more ↦ (let o = any_has (is_within_larger set) sets more in let l = larger_one set o.0 o.2 in
          up o.0 o.1 l.0 l.1)
    ]
  ]

  pass_down : (set other : List Node) → length set < length other → AreWithin set other → LargestAbove other
      → LargestAbove set
  unfolding LargestAbove
  pass_down set other l w (inl empty) = absurd (omega (arith, ap length empty, l))
  pass_down set other l w (inr big) = inr (big.0, big.1, big.2, λ x g. big.3 x (w x g))

  -- each set is within a largest one, or empty
  climb : (n longest : ℕ) → ((set : List Node) → Contains sets set → length set ≤ longest) → (set : List Node)
      → Contains sets set → longest ≤ n + length set → LargestAbove set
  climb zero longest bound set h le = look set h (λ other in' l w. absurd (let b = bound other in' in omega arith))
  climb (suc n) longest bound set h le =
      look set h (λ other in' l w. pass_down set other l w (climb n longest bound other in' (omega arith)))

  pub above : (set : List Node) → Contains sets set
      → (set ≡ []) ⊎ ((big : List Node) × Contains sets big × (is_largest sets big ≡ true) × AreWithin set big)
  unfolding LargestAbove
  above set h = let b = longest_of sets in climb b.0 b.0 b.1 set h (omega arith)

  pub none_larger : (set other : List Node) → is_largest sets set ≡ true → Contains sets other
      → length set < length other → AreWithin set other → ⊥
  none_larger set other h in' l w =
      let both = and_parts (not (eqb (length set) 0)) (not (list_any (is_within_larger set) sets)) h in
      true≢false (sym (has_any (is_within_larger set) sets other in'
      (and_from (nat_lt (length set) (length other)) (is_within set other) (lt-ltb (length set) (length other) l)
      (test_by_within set other w))) ∙ not_true (list_any (is_within_larger set) sets) both.1)

  pub largest_some : (set : List Node) → is_largest sets set ≡ true → set ≢ []
  largest_some set h e =
      let both = and_parts (not (eqb (length set) 0)) (not (list_any (is_within_larger set) sets)) h in
      true≢false (sym ((unsigned_Decides (length set) 0).1 (ap length e)) ∙ not_true (eqb (length set) 0) both.0)

-- what is left of the sets of lists, once each in order, without those within larger ones
pub largest_of : (lists sets : List (List Node)) → IsStrictlySortedBy (slice_cmp node_cmp) sets → AreSetsOf lists sets
    → AreLargest lists (filter (is_largest sets) sets)
largest_of lists sets up are =
    let in' = λ (set : List Node) (h : Contains (filter (is_largest sets) sets) set). filter_contains (is_largest sets)
    sets set h in
    record {
      ascending = IsStrictlySortedBy-filter (slice_cmp node_cmp) (is_largest sets) sets up;
      each_ascending = λ set h. (are.from set (in' set h).0).2.ascending;
      some = λ set h. largest_some sets set (in' set h).1;
      kept = λ set h. (let f = are.from set (in' set h).0 in (f.0, f.1, f.2.within, f.2.has));
      apart = λ a b h g w.
          elim (same_or_smaller a b (are.from a (in' a h).0).2.ascending (are.from b (in' b g).0).2.ascending w) [
            | inl same ↦ same
            | inr smaller ↦ absurd (none_larger sets a b (in' a h).1 (in' b g).0 smaller w)
          ];
      covers = λ xs h. (let s = are.each xs h in elim (above sets s.0 s.1) [
        | inl empty ↦ inl (nothing_within xs (subst (AreWithin xs) empty s.2.has))
        | inr big ↦ inr (big.0, contains_filter (is_largest sets) sets big.0 big.1 big.2, λ x g. big.3 x (s.2.has x g))
      ]);
    }

-- the unions, one by one
pub products_have : (ks bs : List (List Node)) (v : List Node) → Contains (products ks bs) v
    ↔ ((a b : List Node) × Contains ks a × Contains bs b × (v ≡ a ++ b))
products_have ks bs v = (
  (λ h. let f = flat_contains (λ a. map (λ b. a ++ b) bs) ks v h in
      let m = Contains-map_from (λ b. f.0 ++ b) bs v f.2 in (f.0, m.0, f.1, m.1, sym m.2)),
  (λ h. contains_flat (λ a. map (λ b. a ++ b) bs) ks h.0 v h.2
      (subst (Contains (map (λ b. h.0 ++ b) bs)) (sym h.4) (Contains-map (λ b. h.0 ++ b) bs h.1 h.3))),
)

-- a choice of families, after one of the unions before
pub choices_have : (fs : List (List (List Node))) (unions : List (List Node)) (v : List Node)
    → Contains (choices_on fs unions) v ↔ ((a c : List Node) × Contains unions a × IsChoice fs c × (v ≡ a ++ c))
choices_have [] unions v = (
  (λ h. (v, [], h, refl, sym (append-nil v))),
  (λ h. subst (Contains unions) (sym (h.4 ∙ ap (λ (c : List Node). h.0 ++ c) h.3 ∙ append-nil h.0)) h.2),
)
choices_have ([] ∷ fs) unions v =
    let rest = choices_have fs unions v in (
      (λ h. let r = rest.0 h in (r.0, r.1, r.2, inl (refl, r.3), r.4)),
      (λ h. elim h.3 [
        | inl skip ↦ rest.1 (h.0, h.1, h.2, skip.1, h.4)
        | inr q ↦ absurd (Contains-none q.0 q.2)
      ]),
    )
choices_have ((s ∷ f) ∷ fs) unions v =
    let rest = choices_have fs (products unions (s ∷ f)) v in (
      (λ h. let r = rest.0 h in let p = (products_have unions (s ∷ f) r.0).0 r.2 in (
        p.0,
        p.1 ++ r.1,
        p.2,
        inr (p.1, r.1, p.3, r.3, refl),
        r.4 ∙ ap (λ (a : List Node). a ++ r.1) p.4
            ∙ append_assoc p.0 p.1 r.1,
      )),
      (λ h. elim h.3 [
        | inl skip ↦ absurd (let e = ap length skip.0 in omega (arith, e))
        | inr q ↦ rest.1 (
          h.0 ++ q.0,
          q.1,
          (products_have unions (s ∷ f) (h.0 ++ q.0)).1 (h.0, q.0, h.2, q.2, refl),
          q.3,
          h.4 ∙ ap (λ (c : List Node). h.0 ++ c) q.4 ∙ sym (append_assoc h.0 q.0 q.1),
        )
      ]),
    )

-- the last family comes last
pub choices_push : (fs : List (List (List Node))) (f : List (List Node)) (unions : List (List Node))
    → choices_on (fs ++ f ∷ []) unions ≡ with_sets f (choices_on fs unions)
choices_push [] f unions = refl
choices_push (g ∷ fs) f unions = choices_push fs f (with_sets g unions)

pub filter_all : {X : Type 0} (p : X → Bool) (xs : List X) → ((x : X) → Contains xs x → p x ≡ true) → filter p xs ≡ xs
filter_all p [] h = refl
filter_all {X} p (x ∷ xs) h =
    ap (λ b. cond b (x ∷ filter p xs) (filter p xs)) (h x (Contains-first x xs))
    ∙ ap (λ (ys : List X). x ∷ ys) (filter_all p xs (λ y g. h y (Contains-later x xs y g)))

pub some_at : {X : Type 0} (xs : List X) (i : ℕ) → i < length xs → (x : X) × (x ≡ get_or xs i x)
some_at [] i l = absurd (omega (arith, l))
some_at (x ∷ xs) zero l = (x, refl)
some_at (x ∷ xs) (suc i) l = some_at xs i (omega (arith, l))

-- a set that is as long as any is within no larger one
pub none_longer : (sets : List (List Node)) (longest : ℕ) (set : List Node)
    → ((other : List Node) → Contains sets other → length other ≤ longest) → longest ≤ length set
    → eqb (length set) 0 ≡ false → is_largest sets set ≡ true
none_longer sets longest set bound long some =
    and_from (not (eqb (length set) 0)) (not (list_any (is_within_larger set) sets)) (ap not some)
    (elim (cases_Bool (list_any (is_within_larger set) sets)) [
      | inr none ↦ ap not none
      | inl any ↦ absurd (let o = any_has (is_within_larger set) sets any in let l = larger_one sets set o.0 o.2 in
          let b = bound o.0 o.1 in omega (arith, l.0, b))
    ])

-- lists as sets
pub set_of_list : (xs sorted set : List Node) → IsPermutation xs sorted → IsSorted node_cmp sorted
    → set ≡ dedup node_eq sorted → IsSetOf xs set
set_of_list xs sorted set moved up is = record {
  ascending = subst (IsStrictlySortedBy node_cmp) (sym is)
      (IsStrictlySortedBy-dedup node_cmp_total (λ x y. lists_ties nat_cmp unsigned_ties x.0 y.0) sorted up);
  has = λ x h. subst (λ (zs : List Node). Contains zs x) (sym is)
      (Contains-dedup node_eq_laws same_node sorted x (Contains-permutation xs sorted x moved h));
  within = λ x h. Contains-permutation sorted xs x (IsPermutation-sym xs sorted moved)
      (Contains-from_dedup node_eq sorted x (subst (λ (zs : List Node). Contains zs x) is h));
}

pub no_sets_yet : AreSetsOf [] []
no_sets_yet = record { from = λ set h. absurd (Contains-none set h); each = λ xs h. absurd (Contains-none xs h) }

pub one_set_more : (lists sets : List (List Node)) (xs set : List Node) → AreSetsOf lists sets → IsSetOf xs set
    → AreSetsOf (lists ++ xs ∷ []) (sets ++ set ∷ [])
one_set_more lists sets xs set are is = record {
  from = λ s h. elim (Contains-push_cases sets set s h) [
    | inl before ↦ (let f = are.from s before in (f.0, Contains-append_left lists (xs ∷ []) f.0 f.1, f.2))
    | inr last ↦ (xs, Contains-push lists xs, subst (IsSetOf xs) last is)
  ];
  each = λ ys h. elim (Contains-push_cases lists xs ys h) [
    | inl before ↦ (let e = are.each ys before in (e.0, Contains-append_left sets (set ∷ []) e.0 e.1, e.2))
    | inr last ↦ (set, Contains-push sets set, subst (λ (zs : List Node). IsSetOf zs set) last is)
  ];
}

-- vectors as sets: equal as lists, in the order of lists
same_vec : Vec Node Global → Vec Node Global → Bool
same_vec v w = pointwise node_eq v.items w.items

vec_cmp : Vec Node Global → Vec Node Global → Ordering
vec_cmp v w = slice_cmp node_cmp v.items w.items

vec_equivalence : IsEquivalence same_vec
unfolding same_vec
vec_equivalence = on_equiv (λ (v : Vec Node Global). v.items) (lists_equiv node_eq_laws)

vec_total : IsTotalOrder vec_cmp
unfolding vec_cmp
vec_total = on_total (λ (v : Vec Node Global). v.items) (lists_total node_cmp_total)

same_items : (v w : Vec Node Global) → same_vec v w ≡ true → v.items ≡ w.items
unfolding same_vec
same_items v w h = (pointwise_decides (λ x y. ((λ e. same_node x y e), (λ e. node_itself x y e))) v.items w.items).0 h

sorted_sets : (vs : List (Vec Node Global)) → IsStrictlySortedBy vec_cmp vs
    → IsStrictlySortedBy (slice_cmp node_cmp) (sets_of vs)
unfolding vec_cmp IsStrictlySortedBy
sorted_sets [] up = tt
sorted_sets (v ∷ vs) up = (each vs up.0, sorted_sets vs up.1)
  where
    each : (ws : List (Vec Node Global)) → AllByRecursion (λ w. slice_cmp node_cmp v.items w.items ≡ Less) ws
        → AllByRecursion (λ zs. slice_cmp node_cmp v.items zs ≡ Less) (sets_of ws)
    each [] h = tt
    each (w ∷ ws) h = (h.0, each ws h.1)

module _ (lists : List (List Node)) (vs sorted ws : List (Vec Node Global)) (are : AreSetsOf lists (sets_of vs))
    (moved : IsPermutation vs sorted) (up : IsSorted (λ v w. slice_cmp node_cmp v.items w.items) sorted)
    (is : ws ≡ dedup (λ v w. pointwise node_eq v.items w.items) sorted) where
  pub deduped_up : IsStrictlySortedBy (slice_cmp node_cmp) (sets_of ws)
  unfolding same_vec vec_cmp
  deduped_up =
      sorted_sets ws
      (subst (IsStrictlySortedBy vec_cmp) (sym is)
      (IsStrictlySortedBy-dedup vec_total
      (λ v w. lists_ties node_cmp (λ x y. lists_ties nat_cmp unsigned_ties x.0 y.0) v.items w.items) sorted up))

  pub deduped_sets : AreSetsOf lists (sets_of ws)
  unfolding same_vec
  deduped_sets = record {
    from = λ set h.
        let v = Contains-map_from (λ (w : Vec Node Global). w.items) ws set h in
        let in' = Contains-permutation sorted vs v.0 (IsPermutation-sym vs sorted moved)
        (Contains-from_dedup same_vec sorted v.0
        (subst (λ (us : List (Vec Node Global)). Contains us v.0) is v.1)) in
        subst (λ (zs : List Node). (xs : List Node) × Contains lists xs × IsSetOf xs zs) v.2
        (are.from v.0.items (Contains-map (λ (w : Vec Node Global). w.items) vs v.0 in'));
    each = λ xs h.
        let e = are.each xs h in
        let v = Contains-map_from (λ (w : Vec Node Global). w.items) vs e.0 e.1 in
        let any = Any-dedup vec_equivalence sorted v.0 (Contains-permutation vs sorted v.0 moved v.1) in
        let there : Contains (dedup same_vec sorted) any.1 = (any.0, any.2, any.3) in
        let same : any.1.items ≡ e.0 = sym (same_items v.0 any.1 any.4) ∙ v.2 in (
          e.0,
          subst (Contains (sets_of ws)) same
              (Contains-map (λ (w : Vec Node Global). w.items) ws any.1
              (subst (λ (us : List (Vec Node Global)). Contains us any.1) (sym is) there)),
          e.2,
        );
  }

  pub largest_deduped : AreLargest lists (filter (is_largest (sets_of ws)) (sets_of ws))
  largest_deduped = largest_of lists (sets_of ws) deduped_up deduped_sets

-- one vector more
pub sets_more : (xs : List (Vec Node Global)) (i : ℕ) (x : Vec Node Global) → i < length xs → x ≡ get_or xs i x
    → sets_of (take (i + 1) xs) ≡ sets_of (take i xs) ++ x.items ∷ []
sets_more xs i x l e =
    ap sets_of (take_more xs i x l ∙ ap (λ (z : Vec Node Global). take i xs ++ z ∷ []) (sym e))
    ∙ map-append (λ (v : Vec Node Global). v.items) (take i xs) (x ∷ [])

-- one set more of those that pass a test
module _ (p : List Node → Bool) (xs : List (Vec Node Global)) (i : ℕ) (x : Vec Node Global) (l : i < length xs)
    (e : x ≡ get_or xs i x) where
  filter_last : filter p (sets_of (take (i + 1) xs))
      ≡ filter p (sets_of (take i xs)) ++ cond (p x.items) (x.items ∷ []) []
  filter_last = ap (filter p) (sets_more xs i x l e) ∙ filter-append p (sets_of (take i xs)) (x.items ∷ [])

  pub filter_with : p x.items ≡ true
      → filter p (sets_of (take (i + 1) xs)) ≡ filter p (sets_of (take i xs)) ++ x.items ∷ []
  filter_with h = filter_last
      ∙ ap (λ b. filter p (sets_of (take i xs)) ++ cond b (x.items ∷ []) []) h

  pub filter_without : p x.items ≡ false → filter p (sets_of (take (i + 1) xs)) ≡ filter p (sets_of (take i xs))
  filter_without h = filter_last
      ∙ ap (λ b. filter p (sets_of (take i xs)) ++ cond b (x.items ∷ []) []) h
      ∙ append-nil (filter p (sets_of (take i xs)))

pub sets_push : (xs : List (Vec Node Global)) (x : Vec Node Global)
    → sets_of (xs ++ x ∷ []) ≡ sets_of xs ++ x.items ∷ []
sets_push xs x = map-append (λ (v : Vec Node Global). v.items) xs (x ∷ [])

pub empty_list : {X : Type 0} (xs : List X) → length xs ≡ 0 → xs ≡ []
empty_list [] h = refl
empty_list (x ∷ xs) h = absurd (omega (arith, h))

-- ---- one set more

-- lists of nodes that the order can't tell apart are one
pub sets_exact : CmpEqualImpliesEq (slice_cmp node_cmp)
sets_exact xs ys e = (pointwise_decides (λ x y. ((λ h. same_node x y h), (λ h. node_itself x y h))) xs ys).0
    (lists_ties node_cmp (λ x y. lists_ties nat_cmp unsigned_ties x.0 y.0) xs ys ∙ ap is_eq e)

-- what a list has, ascending
pub ascending_of : (p : List Node)
    → (set : List Node) × IsStrictlySortedBy node_cmp set × AreWithin set p × AreWithin p set
unfolding IsStrictlySortedBy
ascending_of [] = ([], tt, (λ x h. h), (λ x h. h))
ascending_of (n ∷ p) = by (ascending_of p)
  where
    by : (set : List Node) × IsStrictlySortedBy node_cmp set × AreWithin set p × AreWithin p set
        → (set : List Node) × IsStrictlySortedBy node_cmp set × AreWithin set (n ∷ p) × AreWithin (n ∷ p) set
    by rest = elim (among_or_not rest.0 n) [
      | inl in' ↦ (
        rest.0,
        rest.1,
        (λ x h. Contains-later n p x (rest.2 x h)),
        λ x h. elim (Contains-cons_cases n p x h) [
          | inl s ↦ subst (Contains rest.0) s in'
          | inr k ↦ rest.3 x k
        ],
      )
      | inr out ↦ (
          let more = one_more node_cmp_total node_cmp_exact n rest.0 rest.1 out in (
            more.0,
            more.1.ascending,
            (λ x h. elim ((more.1.members x).0 h) [
              | inl s ↦ subst (Contains (n ∷ p)) s (Contains-first n p)
              | inr k ↦ Contains-later n p x (rest.2 x k)
            ]),
            (λ x h. elim (Contains-cons_cases n p x h) [
              | inl s ↦ (more.1.members x).1 (inl s)
              | inr k ↦ (more.1.members x).1 (inr (rest.3 x k))
            ]),
          ))
    ]
