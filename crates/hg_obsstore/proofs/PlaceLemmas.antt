-- Lists of places.
use Rattle.std.proofs.Common.{◌≡◌, ◌<◌, ◌≤◌, ◌+◌, ◌-◌, ◌∷◌, ◌++◌, [], ℕ, List, true, false, ◌==◌, length, Contains}
use Rattle.std.proofs.Common.{arith, ⊎_elim, subst, sym, slice_get, Option, None, Some, ap, ◌∙◌, refl, length-append}
use Rattle.std.proofs.Common.{take, get_or}
use Rattle.std.specs.List.{cons_option}
use Rattle.std.proofs.lemmas.List.{get_or_push, take_more, append-nil}
use Rattle.std.proofs.lemmas.List.Elements.{Contains-push, Contains-push_cases, Contains-append_left, filter_map-append}
use Rattle.std.proofs.lemmas.Option.{slice_get_within, slice_get_read, get_or_from_slice_get}
use Rattle.std.proofs.lemmas.Bool.{cases_lt, false_from_ne_true}
use Rattle.std.specs.Cmp.{unsigned_Decides}
use Rattle.std.proofs.Math.Seq.{take-append_seam}
use Rattle.hg_changeset.proofs.ListLemmas.{IsStrictlyIncreasing-push}
use Rattle.hg_obsstore.specs.Places.{ListsAll, picked}
use Rattle.hg_obsstore.specs.Index.{stands_last, with_last, without_last}

module _ (Q : ℕ → Type 0) where
  pub one_more : (xs : List ℕ) (k : ℕ) → ListsAll (λ i. (i < k) × Q i) xs → Q k
      → ListsAll (λ i. (i < k + 1) × Q i) (xs ++ k ∷ [])
  one_more xs k all q = record {
    ascending = IsStrictlyIncreasing-push xs k all.ascending (λ i h. ((all.exact i).0 h).0);
    exact = λ i. (
      (λ h. ⊎_elim (λ there. let e = (all.exact i).0 there in let lt : i < k + 1 = omega (arith, e.0) in (lt, e.1))
          (λ (same : k ≡ i). let lt : i < k + 1 = omega arith in (lt, subst Q same q)) (Contains-push_cases xs k i h)),
      (λ h. ⊎_elim (λ (lt : i < k). Contains-append_left xs (k ∷ []) i ((all.exact i).1 (lt, h.1)))
          (λ (ge : k ≤ i). let same : k ≡ i = omega (arith, h.0) in
          subst (Contains (xs ++ k ∷ [])) same (Contains-push xs k)) (cases_lt i k)),
    );
  }

  pub no_more : (xs : List ℕ) (k : ℕ) → ListsAll (λ i. (i < k) × Q i) xs → (Q k → ⊥)
      → ListsAll (λ i. (i < k + 1) × Q i) xs
  no_more xs k all not = record {
    ascending = all.ascending;
    exact = λ i. (
      (λ h. let e = (all.exact i).0 h in let lt : i < k + 1 = omega (arith, e.0) in (lt, e.1)),
      (λ h. ⊎_elim (λ (lt : i < k). (all.exact i).1 (lt, h.1)) (λ (ge : k ≤ i). let same : i ≡ k = omega (arith, h.0) in
          absurd (not (subst Q same h.1))) (cases_lt i k)),
    );
  }

  pub all_listed : (xs : List ℕ) (n : ℕ) → ListsAll (λ i. (i < n) × Q i) xs → ((i : ℕ) → Q i → i < n) → ListsAll Q xs
  all_listed xs n all within =
      record {
        ascending = all.ascending;
        exact =
            λ i. ((λ h. ((all.exact i).0 h).1), (λ q. (all.exact i).1 (within i q, q)));
      }

-- what stands last
pub last_pushed : (xs : List ℕ) (k : ℕ) → slice_get (xs ++ k ∷ []) (length (xs ++ k ∷ []) - 1) ≡ Some k
last_pushed xs k =
    let long : length (xs ++ k ∷ []) ≡ length xs + 1 = length-append xs (k ∷ []) in
    let at : length (xs ++ k ∷ []) - 1 ≡ length xs = omega (arith, long) in
    ap (slice_get (xs ++ k ∷ [])) at
    ∙ slice_get_read (xs ++ k ∷ []) (length (xs ++ k ∷ [])) (length xs) k refl (omega (arith, long))
    (sym (get_or_push xs k k (length xs) refl))

pub pushed_stands_last : (xs : List ℕ) (k : ℕ) → stands_last (xs ++ k ∷ []) k ≡ true
pushed_stands_last xs k = rw (last_pushed xs k) ((unsigned_Decides k k).1 refl)

pub last_is : (xs : List ℕ) (k : ℕ) (r : Option ℕ) → slice_get xs (length xs - 1) ≡ r → stands_last xs k ≡ true
    → Contains xs k
last_is xs k None at h = let f : false ≡ true = rw at at h in absurd cc
last_is xs k (Some l) at h =
    let same : (l == k) ≡ true = rw at at h in
    let is : l ≡ k = (unsigned_Decides l k).0 same in
    let lt = slice_get_within xs (length xs - 1) l at in
    (length xs - 1, lt, get_or_from_slice_get xs (length xs - 1) l k at ∙ is)

pub below_not_last : (xs : List ℕ) (k : ℕ) → ((i : ℕ) → Contains xs i → i < k) → stands_last xs k ≡ false
below_not_last xs k below =
    false_from_ne_true (stands_last xs k) (λ h. let lt = below k (last_is xs k _ refl h) in omega (arith, lt))

-- the place is put last once, and taken away again
pub with_last_below : (xs : List ℕ) (k : ℕ) → ((i : ℕ) → Contains xs i → i < k) → with_last xs k ≡ xs ++ k ∷ []
unfolding with_last
with_last_below xs k below = rw (below_not_last xs k below) refl

pub with_last_again : (xs : List ℕ) (k : ℕ) → with_last (xs ++ k ∷ []) k ≡ xs ++ k ∷ []
unfolding with_last
with_last_again xs k = rw (pushed_stands_last xs k) refl

pub without_last_below : (xs : List ℕ) (k : ℕ) → ((i : ℕ) → Contains xs i → i < k) → without_last xs k ≡ xs
unfolding without_last
without_last_below xs k below = rw (below_not_last xs k below) refl

pub without_last_pushed : (xs : List ℕ) (k : ℕ) → without_last (xs ++ k ∷ []) k ≡ xs
unfolding without_last
without_last_pushed xs k =
    let long : length (xs ++ k ∷ []) ≡ length xs + 1 = length-append xs (k ∷ []) in
    let at : length (xs ++ k ∷ []) - 1 ≡ length xs = omega (arith, long) in
    rw (pushed_stands_last xs k) (ap (λ n. take n (xs ++ k ∷ [])) at ∙ take-append_seam xs (k ∷ []))

pub without_last_none : (k : ℕ) → without_last [] k ≡ []
unfolding without_last
without_last_none k = refl

-- ---- what stands at places, one place after the other

module _ {X : Type 0} (xs : List X) (places : List ℕ) (i : ℕ) (l : i < length places) where
  next_place : picked xs (take (i + 1) places) ≡ picked xs (take i places)
      ++ cons_option (slice_get xs (get_or places i 0)) []
  next_place =
      ap (picked xs) (take_more places i 0 l)
      ∙ filter_map-append (slice_get xs) (take i places) (get_or places i 0 ∷ [])

  pub picked-some : (x : X) → slice_get xs (get_or places i 0) ≡ Some x
      → picked xs (take (i + 1) places) ≡ picked xs (take i places) ++ x ∷ []
  picked-some x at = next_place ∙ ap (λ o. picked xs (take i places) ++ cons_option o []) at

  pub picked-none : slice_get xs (get_or places i 0) ≡ None
      → picked xs (take (i + 1) places) ≡ picked xs (take i places)
  picked-none at = next_place ∙ ap (λ o. picked xs (take i places) ++ cons_option o []) at
      ∙ append-nil (picked xs (take i places))
