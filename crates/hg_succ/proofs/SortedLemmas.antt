-- Strictly ascending lists.
use Rattle.std.proofs.Common.{◌≡◌, ◌<◌, ◌∷◌, [], ℕ, List, length, Contains, arith, ⊎_elim, get_or, subst, sym, ap, ◌∙◌}
use Rattle.std.proofs.Common.{refl, zero, suc, ◌⊎◌, ◌↔◌, inl, inr}
use Rattle.std.proofs.lemmas.List.Elements.{All-contains, Contains-get_or}
use Rattle.std.proofs.lemmas.Map.Keys.{sorted_tail}
use Rattle.std.proofs.lemmas.Map.Lookups.{CmpEqualImpliesEq}
use Rattle.std.proofs.lemmas.Map.Views.{All-after_first}
use Rattle.std.specs.Cmp.{IsTotalOrder}
use Rattle.std.specs.List.{AllByRecursion}
use Rattle.std.specs.List.Sorted.{IsStrictlySortedBy}
use Rattle.std.specs.declared.cmp.Ordering.{Ordering}
use Rattle.std.specs.declared.cmp.Ordering.TheVariants.{Less, Equal, Greater}
use Rattle.std.specs.Ordering.{ordering_reverse}
use Rattle.hg_changeset.proofs.ListLemmas.{Contains-cons_cases, Contains-first, Contains-later, Contains-none}

module _ {K : Type 0} {R : K → K → Ordering} (o : IsTotalOrder R) where
  no_less_itself : (r : Ordering) → r ≡ ordering_reverse r → r ≡ Less → ⊥
  no_less_itself Less e h = cc
  no_less_itself Equal e h = cc
  no_less_itself Greater e h = cc

  -- nothing is below itself
  pub not_below_itself : (x : K) → R x x ≡ Less → ⊥
  not_below_itself x h = no_less_itself (R x x) (o.antisymm x x) h

  pub below_rest : (x : K) (xs : List K) (y : K) → IsStrictlySortedBy R (x ∷ xs) → Contains xs y → R x y ≡ Less
  below_rest x xs y up h = All-contains (λ z. R x z ≡ Less) xs y (All-after_first R x xs up) h

  -- the heads of two ascending lists with the same members are one
  same_heads : (x : K) (xs : List K) (y : K) (ys : List K) → IsStrictlySortedBy R (x ∷ xs)
      → IsStrictlySortedBy R (y ∷ ys) → Contains (y ∷ ys) x → Contains (x ∷ xs) y → x ≡ y
  same_heads x xs y ys up vp here there = ⊎_elim (λ (e : y ≡ x). sym e)
      (λ (later : Contains ys x). ⊎_elim (λ (e : x ≡ y). e)
      (λ (later' : Contains xs y).
      absurd (not_below_itself x (o.trans x y x (below_rest x xs y up later') (below_rest y ys x vp later))))
      (Contains-cons_cases x xs y there)) (Contains-cons_cases y ys x here)

  rest_within : (x : K) (xs : List K) (y : K) (ys : List K) → IsStrictlySortedBy R (x ∷ xs)
      → x ≡ y → ((z : K) → Contains (x ∷ xs) z → Contains (y ∷ ys) z) → (z : K) → Contains xs z → Contains ys z
  rest_within x xs y ys up same in' z h = ⊎_elim
      (λ (e : y ≡ z). absurd (not_below_itself x (below_rest x xs x up (subst (Contains xs) (sym (same ∙ e)) h))))
      (λ (later : Contains ys z). later) (Contains-cons_cases y ys z (in' z (Contains-later x xs z h)))

  -- ascending lists with the same members are one list
  pub same_members : (xs ys : List K) → IsStrictlySortedBy R xs → IsStrictlySortedBy R ys
      → ((z : K) → Contains xs z → Contains ys z) → ((z : K) → Contains ys z → Contains xs z) → xs ≡ ys
  same_members [] [] up vp in' back = refl
  same_members [] (y ∷ ys) up vp in' back = let h : Contains [] y = back y (0, omega arith, refl) in
      absurd (omega (arith, h.1))
  same_members (x ∷ xs) [] up vp in' back = let h : Contains [] x = in' x (0, omega arith, refl) in
      absurd (omega (arith, h.1))
  same_members (x ∷ xs) (y ∷ ys) up vp in' back =
      let same = same_heads x xs y ys up vp (in' x (0, omega arith, refl)) (back y (0, omega arith, refl)) in
      let rest = same_members xs ys (sorted_tail R x xs up) (sorted_tail R y ys vp) (rest_within x xs y ys up same in')
      (rest_within y ys x xs vp (sym same) back) in
      ap (λ z. z ∷ xs) same ∙ ap (λ zs. y ∷ zs) rest

  -- what stands earlier is less
  pub less_by_place : (xs : List K) → IsStrictlySortedBy R xs → (i j : ℕ) (d : K) → i < j → j < length xs
      → R (get_or xs i d) (get_or xs j d) ≡ Less
  less_by_place [] up i j d l within = absurd (omega (arith, within))
  less_by_place (x ∷ xs) up zero zero d l within = absurd (omega (arith, l))
  less_by_place (x ∷ xs) up zero (suc j) d l within = below_rest x xs (get_or xs j d) up
      (Contains-get_or xs j d (omega (arith, within)))
  less_by_place (x ∷ xs) up (suc i) zero d l within = absurd (omega (arith, l))
  less_by_place (x ∷ xs) up (suc i) (suc j) d l within = less_by_place xs (sorted_tail R x xs up) i j d
      (omega (arith, l)) (omega (arith, within))

-- ---- one member more

-- the first list has x and what the second has, and is one longer
pub record HasOneMore {K : Type 0} (R : K → K → Ordering) (ys : List K) (x : K) (xs : List K) : Type 0 where
  pub ascending : IsStrictlySortedBy R ys
  pub members : (z : K) → Contains ys z ↔ ((x ≡ z) ⊎ Contains xs z)
  pub longer : length ys ≡ suc (length xs)

module _ {K : Type 0} {R : K → K → Ordering} (o : IsTotalOrder R) (exact : CmpEqualImpliesEq R) where
  all_members : (P : K → Type 0) (xs : List K) → ((z : K) → Contains xs z → P z) → AllByRecursion P xs
  all_members P [] h = tt
  all_members P (x ∷ xs) h = (h x (Contains-first x xs), all_members P xs (λ z i. h z (Contains-later x xs z i)))

  sorted_cons : (x : K) (xs : List K) → IsStrictlySortedBy R xs → ((z : K) → Contains xs z → R x z ≡ Less)
      → IsStrictlySortedBy R (x ∷ xs)
  unfolding IsStrictlySortedBy
  sorted_cons x xs up h = (all_members (λ z. R x z ≡ Less) xs h, up)

  cons_from : (x : K) (xs : List K) (z : K) → (x ≡ z) ⊎ Contains xs z → Contains (x ∷ xs) z
  cons_from x xs z (inl e) = subst (Contains (x ∷ xs)) e (Contains-first x xs)
  cons_from x xs z (inr i) = Contains-later x xs z i

  more_first : (x : K) (xs : List K) → IsStrictlySortedBy R xs → ((z : K) → Contains xs z → R x z ≡ Less)
      → HasOneMore R (x ∷ xs) x xs
  more_first x xs up below = record {
    ascending = sorted_cons x xs up below;
    members = λ z. (Contains-cons_cases x xs z, cons_from x xs z);
    longer = omega arith;
  }

  more_later : (x y : K) (ys zs : List K) → IsStrictlySortedBy R (y ∷ ys) → R x y ≡ Greater → HasOneMore R zs x ys
      → HasOneMore R (y ∷ zs) x (y ∷ ys)
  more_later x y ys zs up e more = record {
    ascending = sorted_cons y zs more.ascending (λ z i. elim ((more.members z).0 i) [
      | inl s ↦ subst (λ w. R y w ≡ Less) s (o.antisymm y x ∙ ap ordering_reverse e)
      | inr k ↦ below_rest o y ys z up k
    ]);
    members = λ z. (
      λ i. elim (Contains-cons_cases y zs z i) [
        | inl s ↦ inr (cons_from y ys z (inl s))
        | inr j ↦ elim ((more.members z).0 j) [ inl s ↦ inl s | inr k ↦ inr (Contains-later y ys z k) ]
      ],
      λ c. elim c [
        | inl s ↦ Contains-later y zs z ((more.members z).1 (inl s))
        | inr k ↦ elim (Contains-cons_cases y ys z k) [
          | inl s ↦ cons_from y zs z (inl s)
          | inr j ↦ Contains-later y zs z ((more.members z).1 (inr j))
        ]
      ],
    );
    longer = (let l = more.longer in omega (arith, l));
  }

  -- an ascending list takes up what it doesn't have
  pub one_more : (x : K) (xs : List K) → IsStrictlySortedBy R xs → ¬ (Contains xs x)
      → (ys : List K) × HasOneMore R ys x xs
  one_more x [] up out = (x ∷ [], more_first x [] up (λ z i. absurd (Contains-none z i)))
  one_more x (y ∷ ys) up out = by (R x y) refl
      (one_more x ys (sorted_tail R y ys up) (λ i. out (Contains-later y ys x i)))
    where
      by : (r : Ordering) → R x y ≡ r → (zs : List K) × HasOneMore R zs x ys
          → (zs : List K) × HasOneMore R zs x (y ∷ ys)
      by Less e more = (
        x ∷ y ∷ ys,
        more_first x (y ∷ ys) up (λ z i. elim (Contains-cons_cases y ys z i) [
          | inl s ↦ subst (λ w. R x w ≡ Less) s e
          | inr k ↦ o.trans x y z e (below_rest o y ys z up k)
        ]),
      )
      by Equal e more = absurd (out (cons_from y ys x (inl (sym (exact x y e)))))
      by Greater e more = (y ∷ more.0, more_later x y ys more.0 up e more.1)
