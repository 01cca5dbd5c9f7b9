-- Elements and the places where they stand.
use Rattle.std.proofs.Common.{◌≡◌, ℕ, zero, suc, ◌+◌, ◌-◌, ◌<◌, List, [], ◌∷◌, ◌++◌, length, take, set, get_or}
use Rattle.std.proofs.Common.{Contains, ◌⊎◌, inl, inr, refl, sym, ap, subst, ◌∙◌, arith, sum, map, Bool, IsTrue, ◌↔◌}
use Rattle.std.proofs.Common.{eqb, Vec, Global}
use Rattle.std.specs.List.{IsAnyAnswer}
use Rattle.std.proofs.lemmas.List.Sums.{sum_by-set}
use Rattle.std.proofs.lemmas.List.Elements.{Decides-contains, contains_decides}
use Rattle.std.specs.Option.{option_map}
use Rattle.std.specs.Cmp.{unsigned_Decides}
use Rattle.std.proofs.lemmas.List.{length_push, take_at}
use Rattle.std.proofs.lemmas.Option.{slice_get_within, get_or_from_slice_get, none-some, same_Some, slice_get_read}
use Rattle.std.proofs.lemmas.Option.{slice_get-map}
use Rattle.hg_changeset.proofs.ListLemmas.{slice_get-append, slice_get-append_seam, slice_get-push_cases}
use Rattle.hg_graph.proofs.GraphLemmas.{Contains-from_place, place_from_Contains}
use Rattle.hg_succ.specs.Rows.{At}
use Rattle.hg_succ.specs.Search.{IsAscending, EndsWith}

module _ {X : Type 0} where
  pub get_one : (xs : List X) (i : ℕ) (x y : X) → At xs i x → At xs i y → x ≡ y
  get_one xs i x y h g = same_Some x y (sym h ∙ g)

  pub get_append_cases : (xs ys : List X) (i : ℕ) (x : X) → At (xs ++ ys) i x
      → (At xs i x) ⊎ ((k : ℕ) × (i ≡ length xs + k) × At ys k x)
  get_append_cases [] ys i x h = inr (i, omega arith, h)
  get_append_cases (z ∷ xs) ys zero x h = inl h
  get_append_cases (z ∷ xs) ys (suc i) x h = elim (get_append_cases xs ys i x h) [
    | inl before ↦ inl before
    | inr later ↦
        inr (later.0, (let e : suc i ≡ suc (length xs) + later.0 = omega (arith, later.1) in e), later.2)
  ]

  pub get_set_cases : (xs : List X) (i : ℕ) (v : X) (j : ℕ) (w : X) → At (set xs i v) j w
      → ((i ≡ j) × (v ≡ w)) ⊎ At xs j w
  get_set_cases [] i v j w h = inr h
  get_set_cases (x ∷ xs) zero v zero w h = inl (refl, same_Some v w h)
  get_set_cases (x ∷ xs) zero v (suc j) w h = inr h
  get_set_cases (x ∷ xs) (suc i) v zero w h = inr h
  get_set_cases (x ∷ xs) (suc i) v (suc j) w h = elim (get_set_cases xs i v j w h)
      [ inl same ↦ inl (ap suc same.0, same.1) | inr other ↦ inr other ]

  -- a write of what stands there elsewhere
  pub get_set_keeps : (xs : List X) (i : ℕ) (v : X) (j : ℕ) → At xs j v → At (set xs i v) j v
  get_set_keeps [] i v j h = h
  get_set_keeps (x ∷ xs) zero v zero h = refl
  get_set_keeps (x ∷ xs) zero v (suc j) h = h
  get_set_keeps (x ∷ xs) (suc i) v zero h = h
  get_set_keeps (x ∷ xs) (suc i) v (suc j) h = get_set_keeps xs i v j h

  -- a list with an element that stands last ends with it
  pub split_last : (xs : List X) (x : X) → At xs (length xs - 1) x → (front : List X) × (xs ≡ front ++ x ∷ [])
  split_last [] x h = absurd (none-some x h)
  split_last (y ∷ []) x h = ([], ap (λ z. z ∷ []) (same_Some y x h))
  split_last (y ∷ z ∷ xs) x h =
      let r = split_last (z ∷ xs) x
      (subst (λ k. At (y ∷ z ∷ xs) k x)
      (let e : suc (suc (length xs)) - 1 ≡ suc (suc (length xs) - 1) = omega arith in e) h) in
      (y ∷ r.0, ap (λ zs. y ∷ zs) r.1)

pub ascending_push : (xs : List ℕ) (t : ℕ) → IsAscending xs → ((a : ℕ) → Contains xs a → a < t)
    → IsAscending (xs ++ t ∷ [])
ascending_push xs t up below i j a b l at_i at_j =
    elim (slice_get-push_cases xs t j b at_j) [
      | inl j_in ↦ elim (slice_get-push_cases xs t i a at_i) [
        | inl i_in ↦ up i j a b l i_in j_in
        | inr i_end ↦ absurd (omega (arith, i_end.0, slice_get_within xs j b j_in))
      ]
      | inr j_end ↦ elim (slice_get-push_cases xs t i a at_i) [
        | inl i_in ↦ subst (λ z. a < z) j_end.1 (below a (Contains-from_place xs i a i_in))
        | inr i_end ↦ absurd (omega (arith, i_end.0, j_end.0))
      ]
    ]

pub ascending_front : (xs ys : List ℕ) → IsAscending (xs ++ ys) → IsAscending xs
ascending_front xs ys up i j a b l at_i at_j = up i j a b l (slice_get-append xs ys i a at_i)
    (slice_get-append xs ys j b at_j)

pub ascending_last : (xs : List ℕ) (t : ℕ) → IsAscending (xs ++ t ∷ []) → (a : ℕ) → Contains xs a → a < t
ascending_last xs t up a h = let g = place_from_Contains xs a h in
    up g.0 (length xs) a t (slice_get_within xs g.0 a g.1) (slice_get-append xs (t ∷ []) g.0 a g.1)
    (slice_get-append_seam xs t [])

-- what `pop` leaves of a list that ends with an element
pub popped : (xs ys front : List ℕ) (n t : ℕ) → n ≡ length xs → ys ≡ take (n - 1) xs → xs ≡ front ++ t ∷ [] → ys ≡ front
popped xs ys front n t long rest ends =
    let longer : length (front ++ t ∷ []) ≡ length front + 1 = length_push front t in
    let count : n - 1 ≡ length front = omega (arith, long, ap length ends, longer) in
    rest ∙ (λ i. take (count i) (ends i)) ∙ take_at front (t ∷ []) (length front) refl

pub sum_set : (xs : List ℕ) (i l : ℕ) → At xs i (suc l) → sum (set xs i l) + 1 ≡ sum xs
sum_set xs i l h =
    let e = sum_by-set (λ x. x) xs i l 0 (slice_get_within xs i (suc l) h) in
    let f = get_or_from_slice_get xs i (suc l) 0 h in
    omega (arith, e, f)

-- the test that a list of numbers has one
pub test_contains : (xs : List ℕ) (x : ℕ) (r : Bool) → IsAnyAnswer (λ y b. eqb y x ≡ b) xs r → IsTrue r ↔ Contains xs x
test_contains xs x r cases = Decides-contains xs x r (contains_decides eqb unsigned_Decides xs x r cases)

-- the row that stands at a number
pub row_at : {A : Type 0} (rows : List (Vec A Global)) (i : ℕ) (row : Vec A Global) → i < length rows
    → row ≡ get_or rows i row → At (map (λ r. r.items) rows) i row.items
row_at {A} rows i row l e = slice_get-map (λ (r : Vec A Global). r.items) rows i
    ∙ ap (option_map (λ (r : Vec A Global). r.items)) (slice_get_read rows (length rows) i row refl l e)
