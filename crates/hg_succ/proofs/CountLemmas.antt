-- How many sets a node has whose successors have nothing in common.
use Rattle.std.proofs.Common.{◌≡◌, ◌≢◌, ℕ, zero, suc, ◌+◌, ◌<◌, Bool, true, false, cond, not, nat_lt, List, [], ◌∷◌}
use Rattle.std.proofs.Common.{◌++◌, length, map, sum, Contains, inl, inr, refl, sym, ap, subst, ◌∙◌, arith}
use Rattle.std.proofs.Common.{true≢false, zero-add, take, get_or}
use Rattle.std.specs.List.{flat_map, list_any}
use Rattle.std.specs.List.Sorted.{IsStrictlySortedBy}
use Rattle.std.specs.Cmp.Lexicographic.{slice_cmp, lists_total}
use Rattle.std.proofs.Math.Nat.{one-mul}
use Rattle.std.proofs.lemmas.Bool.{cases_Bool, lt-ltb, ltb-true}
use Rattle.std.proofs.lemmas.List.{length-append}
use Rattle.std.proofs.lemmas.List.Elements.{Contains-append_cases}
use Rattle.std.proofs.lemmas.List.Sums.{sum_by-append}
use Rattle.std.proofs.lemmas.Map.Keys.{sorted_tail}
use Rattle.hg_changeset.specs.declared.node.Node.{Node}
use Rattle.hg_changeset.specs.Node.{node_cmp}
use Rattle.hg_changeset.proofs.NodeLemmas.{node_cmp_total}
use Rattle.hg_changeset.proofs.ListLemmas.{Contains-later, Contains-first, Contains-none}
use Rattle.hg_changeset.proofs.ListLemmas.{Contains-map, Contains-map_from, Contains-one}
use Rattle.hg_marker.specs.Fields.{Fields}
use Rattle.hg_replica.specs.Content.{Content}
use Rattle.hg_succ.specs.declared.families.Table.{Table}
use Rattle.hg_succ.specs.Numbered.{successors_at}
use Rattle.hg_succ.specs.Successors.{AreWithin, ways}
use Rattle.hg_succ.specs.Cover.{IsCover, count_in, entry}
use Rattle.hg_succ.specs.Factors.{have_none, empties_at, ways_at}
use Rattle.hg_succ.specs.Plan.{AreStrangers}
use Rattle.hg_succ.specs.Unions.{AreLargest, IsChoice, choices_on, counts}
use Rattle.hg_succ.proofs.NumberLemmas.{more_of}
use Rattle.hg_succ.proofs.SortedLemmas.{below_rest, not_below_itself}
use Rattle.hg_succ.proofs.SetLemmas.{flat_contains, contains_flat, choices_have, any_has, has_any, filter_take}
use Rattle.hg_succ.proofs.SetLemmas.{filter_drop}
use Rattle.hg_succ.proofs.ApartLemmas.{ArePairs, AreIncomparable, HaveNothingInCommon, pairs_append, pairs_front}
use Rattle.hg_succ.proofs.ApartLemmas.{pairs_back, pairs_across, pairs_map, choices_apart, length_choices}
use Rattle.hg_succ.proofs.ApartLemmas.{empty_choice, no_choices, largest_apart}

-- the sets of a family aren't within each other
incomparable : (family : List (List Node)) → IsStrictlySortedBy (slice_cmp node_cmp) family
    → ((a b : List Node) → Contains family a → Contains family b → AreWithin a b → a ≡ b)
    → ArePairs AreIncomparable family
incomparable [] up apart = tt
incomparable (a ∷ family) up apart = (
  λ b h.
      let differ : ¬ (a ≡ b) = λ e. not_below_itself (lists_total node_cmp_total) a
      (below_rest (lists_total node_cmp_total) a family a up (subst (Contains family) (sym e) h)) in (
        (λ w. differ (apart a b (Contains-first a family) (Contains-later a family b h) w)),
        (λ w. differ (sym (apart b a (Contains-later a family b h) (Contains-first a family) w))),
      ),
  incomparable family (sorted_tail (slice_cmp node_cmp) a family up)
      (λ b c h g. apart b c (Contains-later a family b h) (Contains-later a family c g)),
)

-- sets of nodes that have nothing in common have nothing in common
nothing_in_common : (f : Content) (y z : Node) (fs gs : List (List Node)) → IsCover f y fs → IsCover f z gs
    → AreStrangers f y z → HaveNothingInCommon fs gs
nothing_in_common f y z fs gs c d strangers a b h g x i j =
    let p = c.picks a h in
    let q = d.picks b g in
    strangers p.0 q.0 p.1 q.1 x (p.2 x i) (q.2 x j)

-- what a choice has is of a set of one of the families
of_a_family : (fs : List (List (List Node))) (u : List Node) (x : Node) → IsChoice fs u → Contains u x
    → (g : List (List Node)) × Contains fs g × (a : List Node) × Contains g a × Contains a x
of_a_family [] u x choice h = absurd (Contains-none x (subst (λ (zs : List Node). Contains zs x) choice h))
of_a_family (g ∷ fs) u x (inl skip) h =
    (let w = of_a_family fs u x skip.1 h in (w.0, Contains-later g fs w.0 w.1, w.2, w.3, w.4))
of_a_family (g ∷ fs) u x (inr taken) h =
    elim (Contains-append_cases taken.0 taken.1 x (subst (λ (zs : List Node). Contains zs x) taken.4 h)) [
      | inl first ↦ (g, Contains-first g fs, taken.0, taken.2, first)
      | inr rest ↦ (let w = of_a_family fs taken.1 x taken.3 rest in (w.0, Contains-later g fs w.0 w.1, w.2, w.3, w.4))
    ]

sum_first : (x : ℕ) (xs : List ℕ) → sum (x ∷ xs) ≡ x + sum xs
sum_first x xs = sum_by-append (λ n. n) (x ∷ []) xs ∙ ap (λ k. k + sum xs) (zero-add x)

no_members : (fs : List (List Node)) → length fs ≡ 0 → fs ≡ []
no_members [] e = refl
no_members (a ∷ fs) e = absurd (omega (arith, e))

not_some : (k : ℕ) → ¬ (0 < k) → k ≡ 0
not_some zero less = refl
not_some (suc k) less = absurd (less (omega arith))

first_of : (u : List Node) → u ≢ [] → (x : Node) × Contains u x
first_of [] some = absurd (some refl)
first_of (x ∷ u) some = (x, Contains-first x u)

-- a test that fails of one more
pub any_more : {X : Type 0} (p : X → Bool) (xs : List X) (i : ℕ) (x : X) → i < length xs → x ≡ get_or xs i x
    → list_any p (take i xs) ≡ false → p x ≡ false → list_any p (take (i + 1) xs) ≡ false
any_more p xs i x l e before last = elim (cases_Bool (list_any p (take (i + 1) xs))) [
  | inr less ↦ less
  | inl any ↦ absurd (
      let w = any_has p (take (i + 1) xs) any in
      elim ((more_of xs i x l e w.0).0 w.1) [
        | inl old ↦ true≢false (sym (has_any p (take i xs) w.0 old w.2) ∙ before)
        | inr same ↦ true≢false (sym w.2 ∙ sym (ap p same) ∙ last)
      ])
]

module _ (f : Content) (t : Table) (markers : List Fields) (sets : Node → List (List Node))
    (long : (x : Node) → length (sets x) ≡ count_in (entry t x)) where
  abbrev families_at : ℕ → List (List (List Node))
  families_at p = map sets (successors_at markers p)

  abbrev unions_at : ℕ → List (List Node)
  unions_at p = choices_on (families_at p) ([] ∷ [])

  -- the unions of the marker at a place that aren't empty
  abbrev some_at : ℕ → List (List Node)
  some_at p = cond (have_none t (successors_at markers p)) [] (unions_at p)

  -- ---- where no node has sets

  all_empty : (ns : List Node) → have_none t ns ≡ true → (x : Node) → Contains ns x → sets x ≡ []
  all_empty ns e x h = elim (cases_Bool (nat_lt 0 (count_in (entry t x)))) [
    | inl some ↦ absurd (true≢false (sym e ∙ ap not (has_any (λ n. nat_lt 0 (count_in (entry t n))) ns x h some)))
    | inr empty ↦ no_members (sets x) (let l = long x in
        let z : ¬ (0 < count_in (entry t x)) = λ p. true≢false (sym (lt-ltb 0 (count_in (entry t x)) p) ∙ empty) in
        not_some (length (sets x)) (λ p. z (omega (arith, l, p))))
  ]

  empty_all : (ns : List Node) → ((x : Node) → Contains ns x → sets x ≡ []) → have_none t ns ≡ true
  empty_all ns empty = elim (cases_Bool (list_any (λ n. nat_lt 0 (count_in (entry t n))) ns)) [
    | inl any ↦ absurd (
        let w = any_has (λ n. nat_lt 0 (count_in (entry t n))) ns any in
        let l = ltb-true 0 (count_in (entry t w.0)) w.2 in
        omega (arith, l, long w.0, ap length (empty w.0 w.1)))
    | inr less ↦ ap not less
  ]

  counts_are : (ns : List Node) → map length (map sets ns) ≡ counts t ns
  counts_are [] = refl
  counts_are (n ∷ ns) = λ i. long n i ∷ counts_are ns i

  unions_length : (p : ℕ) → length (unions_at p) ≡ ways (counts t (successors_at markers p))
  unions_length p = length_choices (families_at p) ([] ∷ []) ∙ one-mul (ways (map length (families_at p)))
      ∙ ap ways (counts_are (successors_at markers p))

  one_union : (p : ℕ) → have_none t (successors_at markers p) ≡ true → unions_at p ≡ [] ∷ []
  one_union p e = no_choices (families_at p) (λ g h.
      let w = Contains-map_from sets (successors_at markers p) g h in
      sym w.2 ∙ all_empty (successors_at markers p) e w.0 w.1) ([] ∷ [])

  -- the unions that aren't empty and the markers that give the empty one are all unions
  pub unions_and_empties : (ps : List ℕ)
      → length (flat_map some_at ps) + empties_at t markers ps ≡ sum (ways_at t markers ps)
  unions_and_empties [] = refl
  unions_and_empties (p ∷ ps) =
      let rest = unions_and_empties ps in
      let both = length-append (some_at p) (flat_map some_at ps) in
      let all = sum_first (ways (counts t (successors_at markers p))) (ways_at t markers ps) in
      let u = unions_length p in
      elim (cases_Bool (have_none t (successors_at markers p))) [
        | inl empty ↦
            let a : length (some_at p) ≡ 0 = ap (λ b. length (cond b [] (unions_at p))) empty in
            let b = ap length (filter_take (λ q. have_none t (successors_at markers q)) p ps empty) in
            let c = ap length (one_union p empty) in
            omega (arith, rest, both, all, u, a, b, c)
        | inr some ↦
            let a : length (some_at p) ≡ length (unions_at p) = ap (λ b. length (cond b [] (unions_at p))) some in
            let b = ap length (filter_drop (λ q. have_none t (successors_at markers q)) p ps some) in
            omega (arith, rest, both, all, u, a, b)
      ]

  -- ---- they aren't within each other

  in_some : (p : ℕ) (u : List Node) → Contains (some_at p) u → Contains (unions_at p) u
      × (have_none t (successors_at markers p) ≡ false)
  in_some p u h = elim (cases_Bool (have_none t (successors_at markers p))) [
    | inl empty ↦ absurd (Contains-none u (subst (λ b. Contains (cond b [] (unions_at p)) u) empty h))
    | inr some ↦ (subst (λ b. Contains (cond b [] (unions_at p)) u) some h, some)
  ]

  is_choice : (p : ℕ) (u : List Node) → Contains (unions_at p) u → IsChoice (families_at p) u
  is_choice p u h =
      let c = (choices_have (families_at p) ([] ∷ []) u).0 h in
      let first : c.0 ≡ [] = sym (Contains-one [] c.0 c.2) in
      subst (IsChoice (families_at p)) (sym (c.4 ∙ ap (λ (a : List Node). a ++ c.1) first)) c.3

  module _ (places : List ℕ) (covers : (p : ℕ) (x : Node) → Contains places p → Contains (successors_at markers p) x
      → IsCover f x (sets x)) where
    in_family : (p : ℕ) → Contains places p → (g : List (List Node)) → Contains (families_at p) g
        → (x : Node) × Contains (successors_at markers p) x × IsCover f x g
    in_family p h g i =
        let w = Contains-map_from sets (successors_at markers p) g i in
        (w.0, w.1, subst (IsCover f w.0) w.2 (covers p w.0 h w.1))

    not_empty : (p : ℕ) (u : List Node) → Contains places p → Contains (some_at p) u → u ≢ []
    not_empty p u h i e =
        let w = in_some p u i in
        let empty = empty_choice (families_at p) (λ g a k l. (in_family p h g k).2.some a l) u e (is_choice p u w.0) in
        true≢false (sym (empty_all (successors_at markers p) (λ x k. empty (sets x)
        (Contains-map sets (successors_at markers p) x k))) ∙ w.1)

    some_apart : (p : ℕ) → Contains places p → ArePairs (AreStrangers f) (successors_at markers p)
        → ArePairs AreIncomparable (some_at p)
    some_apart p h pairs = elim (cases_Bool (have_none t (successors_at markers p))) [
      | inl empty ↦ subst (λ b. ArePairs AreIncomparable (cond b [] (unions_at p))) (sym empty) tt
      | inr some ↦ subst (λ b. ArePairs AreIncomparable (cond b [] (unions_at p))) (sym some)
          (choices_apart (families_at p) ([] ∷ []) ((λ y i. absurd (Contains-none y i)), tt)
          (λ g i. let c = (in_family p h g i).2 in incomparable g c.ascending c.apart)
          (λ g i a b j k x l. absurd (Contains-none x
          (subst (λ (zs : List Node). Contains zs x) (sym (Contains-one [] a j)) l)))
          (pairs_map (AreStrangers f) HaveNothingInCommon sets (successors_at markers p) pairs
          (λ y z i j strangers. nothing_in_common f y z (sets y) (sets z) (covers p y h i) (covers p z h j)
          strangers)))
    ]

    -- what a union has, a pick of a successor has
    of_a_successor : (p : ℕ) (u : List Node) (x : Node) → Contains places p → Contains (some_at p) u → Contains u x
        → (y : Node) × Contains (successors_at markers p) y × (a : List Node) × Contains (sets y) a × Contains a x
    of_a_successor p u x h i j =
        let w = of_a_family (families_at p) u x (is_choice p u (in_some p u i).0) j in
        let v = Contains-map_from sets (successors_at markers p) w.0 w.1 in
        (v.0, v.1, w.2, subst (λ (g : List (List Node)). Contains g w.2) (sym v.2) w.3, w.4)

    across : (p q : ℕ) (u v : List Node) → Contains places p → Contains places q → Contains (some_at p) u
        → Contains (some_at q) v → ((y z : Node) → Contains (successors_at markers p) y
        → Contains (successors_at markers q) z → AreStrangers f y z) → AreIncomparable u v
    across p q u v h g i j strangers =
        let nothing = λ (x : Node) (k : Contains u x) (l : Contains v x).
        let y = of_a_successor p u x h i k in
        let z = of_a_successor q v x g j l in
        (let r : ⊥ = nothing_in_common f y.0 z.0 (sets y.0) (sets z.0) (covers p y.0 h y.1) (covers q z.0 g z.1)
        (strangers y.0 z.0 y.1 z.1) y.2 z.2 y.3 z.3 x y.4 z.4 in r) in (
          (λ w. let x = first_of u (not_empty p u h i) in nothing x.0 x.1 (w x.0 x.1)),
          (λ w. let x = first_of v (not_empty q v g j) in nothing x.0 (w x.0 x.1) x.1),
        )

    all_apart : (ps : List ℕ) → ((p : ℕ) → Contains ps p → Contains places p)
        → ArePairs (AreStrangers f) (flat_map (successors_at markers) ps)
        → ArePairs AreIncomparable (flat_map some_at ps)
    all_apart [] among pairs = tt
    all_apart (p ∷ ps) among pairs =
        let succ = successors_at markers p in
        let rest = flat_map (successors_at markers) ps in
        pairs_append AreIncomparable (some_at p) (flat_map some_at ps)
        (some_apart p (among p (Contains-first p ps)) (pairs_front (AreStrangers f) succ rest pairs))
        (all_apart ps (λ q h. among q (Contains-later p ps q h)) (pairs_back (AreStrangers f) succ rest pairs))
        (λ u v i j.
        let q = flat_contains some_at ps v j in
        across p q.0 u v (among p (Contains-first p ps)) (among q.0 (Contains-later p ps q.0 q.1)) i q.2
        (λ y z k l. pairs_across (AreStrangers f) succ rest pairs y z k
        (contains_flat (successors_at markers) ps q.0 z q.1 l)))

    -- the unions that aren't empty are the largest
    pub largest_unions : ArePairs (AreStrangers f) (flat_map (successors_at markers) places)
        → (family : List (List Node)) × AreLargest (flat_map unions_at places) family
        × (length family ≡ length (flat_map some_at places))
    largest_unions pairs = largest_apart (flat_map unions_at places) (flat_map some_at places)
        (all_apart places (λ p h. h) pairs)
        (λ u h. let p = flat_contains some_at places u h in
        (contains_flat unions_at places p.0 u p.1 (in_some p.0 u p.2).0, not_empty p.0 u p.1 p.2))
        (λ u h. let p = flat_contains unions_at places u h in
        elim (cases_Bool (have_none t (successors_at markers p.0))) [
          | inl empty ↦ inl (sym (Contains-one [] u
              (subst (λ (us : List (List Node)). Contains us u) (one_union p.0 empty) p.2)))
          | inr some ↦ inr (contains_flat some_at places p.0 u p.1
              (subst (λ b. Contains (cond b [] (unions_at p.0)) u) (sym some) p.2))
        ])
