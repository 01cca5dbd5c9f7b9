-- Some of a list, in their order.
use Rattle.std.proofs.Common.{◌≡◌, ℕ, zero, suc, ◌+◌, ◌<◌, ◌≤◌, List, [], ◌∷◌, ◌++◌, length, take, slice_get, Some}
use Rattle.std.proofs.Common.{Contains, ◌↔◌, inl, inr, refl, sym, ap, subst, ◌∙◌, arith}
use Rattle.std.proofs.lemmas.List.{take_more}
use Rattle.std.proofs.lemmas.Option.{none-some, slice_get_within, get_or_from_slice_get}
use Rattle.hg_changeset.proofs.ListLemmas.{Contains-none, Contains-first, Contains-later, Contains-cons_cases}
use Rattle.hg_changeset.proofs.ListLemmas.{slice_get_some}
use Rattle.hg_message.specs.Those.{AreThose}

module _ {X : Type 0} (P : X → Type 0) where
  pub those-member : (xs ys : List X) → AreThose P xs ys → (y : X) → Contains ys y ↔ (Contains xs y × P y)
  those-member [] ys are y = (
    λ h. absurd (Contains-none y (subst (λ zs. Contains zs y) are h)),
    λ h. absurd (Contains-none y h.0),
  )
  those-member (x ∷ xs) ys (inl t) y =
      let rest = those-member xs t.1.0 t.1.2 y in (
        λ h. elim (Contains-cons_cases x t.1.0 y (subst (λ zs. Contains zs y) t.1.1 h)) [
          | inl e ↦ (subst (Contains (x ∷ xs)) e (Contains-first x xs), subst P e t.0)
          | inr at ↦ let r = rest.0 at in (Contains-later x xs y r.0, r.1)
        ],
        λ h. subst (λ zs. Contains zs y) (sym t.1.1) (elim (Contains-cons_cases x xs y h.0) [
          | inl e ↦ subst (Contains (x ∷ t.1.0)) e (Contains-first x t.1.0)
          | inr at ↦ Contains-later x t.1.0 y (rest.1 (at, h.1))
        ]),
      )
  those-member (x ∷ xs) ys (inr t) y =
      let rest = those-member xs ys t.1 y in (
        λ h. let r = rest.0 h in (Contains-later x xs y r.0, r.1),
        λ h. elim (Contains-cons_cases x xs y h.0) [
          | inl e ↦ absurd (t.0 (subst P (sym e) h.1))
          | inr at ↦
              rest.1 (at, h.1)
        ],
      )

  -- there is one such list
  pub those-once : (xs ys zs : List X) → AreThose P xs ys → AreThose P xs zs → ys ≡ zs
  those-once [] ys zs a b = a ∙ sym b
  those-once (x ∷ xs) ys zs (inl a) (inl b) = a.1.1 ∙ ap (λ l. x ∷ l) (those-once xs a.1.0 b.1.0 a.1.2 b.1.2)
      ∙ sym b.1.1
  those-once (x ∷ xs) ys zs (inl a) (inr b) = absurd (b.0 a.0)
  those-once (x ∷ xs) ys zs (inr a) (inl b) = absurd (a.0 b.0)
  those-once (x ∷ xs) ys zs (inr a) (inr b) = those-once xs ys zs a.1 b.1

  -- and it isn't that there is none
  pub those-exist : (xs : List X) → ((ys : List X) → AreThose P xs ys → ⊥) → ⊥
  those-exist [] none = none [] refl
  those-exist (x ∷ xs) none = those-exist xs (λ ys are.
      let other : ¬ (P x) = λ p. none (x ∷ ys) (inl (p, (ys, refl, are))) in
      none ys (inr (other, are)))

  -- ---- one more

  pub those-push : (xs ys : List X) (x : X) → AreThose P xs ys → P x → AreThose P (xs ++ x ∷ []) (ys ++ x ∷ [])
  those-push [] ys x are p = inl (p, ([], ap (λ l. l ++ x ∷ []) are, refl))
  those-push (z ∷ xs) ys x (inl t) p =
      inl (t.0, (t.1.0 ++ x ∷ [], ap (λ l. l ++ x ∷ []) t.1.1, those-push xs t.1.0 x t.1.2 p))
  those-push (z ∷ xs) ys x (inr t) p = inr (t.0, those-push xs ys x t.1 p)

  pub those-pass : (xs ys : List X) (x : X) → AreThose P xs ys → ¬ (P x) → AreThose P (xs ++ x ∷ []) ys
  those-pass [] ys x are not = inr (not, are)
  those-pass (z ∷ xs) ys x (inl t) not = inl (t.0, (t.1.0, t.1.1, those-pass xs t.1.0 x t.1.2 not))
  those-pass (z ∷ xs) ys x (inr t) not = inr (t.0, those-pass xs ys x t.1 not)

  one_more : (xs : List X) (i : ℕ) (x : X) → slice_get xs i ≡ Some x → take (i + 1) xs ≡ take i xs ++ x ∷ []
  one_more xs i x at = take_more xs i x (slice_get_within xs i x at)
      ∙ ap (λ y. take i xs ++ y ∷ []) (get_or_from_slice_get xs i x x at)

  -- of the elements up to one more
  pub those-next : (xs ys : List X) (i : ℕ) (x : X) → slice_get xs i ≡ Some x → AreThose P (take i xs) ys → P x
      → AreThose P (take (i + 1) xs) (ys ++ x ∷ [])
  those-next xs ys i x at are p = subst (λ zs. AreThose P zs (ys ++ x ∷ [])) (sym (one_more xs i x at))
      (those-push (take i xs) ys x are p)

  pub those-over : (xs ys : List X) (i : ℕ) (x : X) → slice_get xs i ≡ Some x → AreThose P (take i xs) ys → ¬ (P x)
      → AreThose P (take (i + 1) xs) ys
  those-over xs ys i x at are not = subst (λ zs. AreThose P zs ys) (sym (one_more xs i x at))
      (those-pass (take i xs) ys x are not)

  -- of the elements up to n more, of which none is so
  pub those-past : (xs ys : List X) (i n : ℕ) → i + n ≤ length xs
      → ((j : ℕ) (x : X) → i ≤ j → j < i + n → slice_get xs j ≡ Some x → ¬ (P x)) → AreThose P (take i xs) ys
      → AreThose P (take (i + n) xs) ys
  those-past xs ys i zero within never are = let same : i ≡ i + 0 = omega arith in
      subst (λ k. AreThose P (take k xs) ys) same are
  those-past xs ys i (suc n) within never are =
      let at = slice_get_some xs (i + n) (omega (arith, within)) in
      let same : (i + n) + 1 ≡ i + suc n = omega arith in
      let so_far = those-past xs ys i n (omega (arith, within)) (λ j x le lt. never j x le (omega (arith, lt))) are in
      subst (λ k. AreThose P (take k xs) ys) same (those-over xs ys (i + n) at.0 at.1 so_far
      (never (i + n) at.0 (omega arith) (omega arith) at.1))

-- none of them is so
pub those-none : {X : Type 0} (P : X → Type 0) (xs : List X) → ((x : X) → ¬ (P x)) → AreThose P xs []
those-none P [] not = refl
those-none P (x ∷ xs) not = inr (not x, those-none P xs not)

-- what stands in front of one of them comes from what stands in front of it in the list
pub those-front : {X : Type 0} (P : X → Type 0) (xs ys : List X) (i : ℕ) (y : X) → AreThose P xs ys
    → slice_get ys i ≡ Some y → (k : ℕ) × (slice_get xs k ≡ Some y) × AreThose P (take k xs) (take i ys)
those-front P [] ys i y are at = absurd (none-some y (subst (λ zs. slice_get zs i ≡ Some y) are at))
those-front P (x ∷ xs) ys zero y (inl t) at = (zero, subst (λ zs. slice_get zs zero ≡ Some y) t.1.1 at, refl)
those-front P (x ∷ xs) ys (suc i) y (inl t) at =
    let r = those-front P xs t.1.0 i y t.1.2 (subst (λ zs. slice_get zs (suc i) ≡ Some y) t.1.1 at) in
    (suc r.0, r.1, inl (t.0, (take i t.1.0, ap (take (suc i)) t.1.1, r.2)))
those-front P (x ∷ xs) ys i y (inr t) at =
    let r = those-front P xs ys i y t.1 at in
    (suc r.0, r.1, inr (t.0, r.2))
