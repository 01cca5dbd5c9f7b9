-- The markers at some places, and sums over them.
use Rattle.std.proofs.Common.{◌≡◌, ◌≢◌, ℕ, zero, suc, ◌+◌, ◌<◌, ◌≤◌, List, [], ◌∷◌, ◌++◌, map, sum, get_or, Contains}
use Rattle.std.proofs.Common.{inl, inr, sym, ap, subst, ◌∙◌, arith, zero-add}
use Rattle.std.specs.List.{AllZip, AllPairs}
use Rattle.std.proofs.lemmas.List.{map-append}
use Rattle.std.proofs.lemmas.List.Sums.{sum_by-append}
use Rattle.std.proofs.lemmas.List.Elements.{Contains-get_or, Contains-append_left, Contains-append_right}
use Rattle.std.proofs.lemmas.List.Elements.{Contains-append_cases}
use Rattle.std.proofs.lemmas.Option.{get_or_from_slice_get, slice_get_within}
use Rattle.hg_changeset.proofs.ListLemmas.{Contains-cons_cases, Contains-first, Contains-later, Contains-none}
use Rattle.hg_marker.specs.Fields.{Fields}
use Rattle.hg_obsstore.specs.Markers.{AreDifferent}
use Rattle.hg_succ.specs.Rows.{At}

-- ascending numbers
ascending_rest : (x : ℕ) (xs : List ℕ) → AllPairs (λ a b. a < b) (x ∷ xs) → AllPairs (λ a b. a < b) xs
ascending_rest x xs up i j d l m = up (suc i) (suc j) d (omega arith) (omega arith)

ascending_head : (x : ℕ) (xs : List ℕ) (y : ℕ) → AllPairs (λ a b. a < b) (x ∷ xs) → Contains xs y → x < y
ascending_head x xs y up h = subst (λ z. x < z) h.2 (up 0 (suc h.0) y (omega arith) (omega (arith, h.1)))

-- ---- the markers at places

pub there : (markers : List Fields) (ps : List ℕ) → ((p : ℕ) → Contains ps p → (m : Fields) × At markers p m)
    → (ms : List Fields) × AllZip (At markers) ps ms
there markers [] h = ([], tt)
there markers (p ∷ ps) h =
    let w = h p (Contains-first p ps) in
    let r = there markers ps (λ q g. h q (Contains-later p ps q g)) in
    (w.0 ∷ r.0, (w.1, r.1))

pub place_of_one : (markers : List Fields) (ps : List ℕ) (ms : List Fields) (m : Fields) → AllZip (At markers) ps ms
    → Contains ms m → (p : ℕ) × Contains ps p × At markers p m
place_of_one markers [] [] m z h = absurd (Contains-none m h)
place_of_one markers [] (x ∷ ms) m z h = absurd z
place_of_one markers (p ∷ ps) [] m z h = absurd z
place_of_one markers (p ∷ ps) (x ∷ ms) m z h = elim (Contains-cons_cases x ms m h) [
  | inl same ↦ (p, Contains-first p ps, subst (At markers p) same z.0)
  | inr later ↦ (let r = place_of_one markers ps ms m z.1 later in (r.0, Contains-later p ps r.0 r.1, r.2))
]

pub one_at_place : (markers : List Fields) (ps : List ℕ) (ms : List Fields) (p : ℕ) → AllZip (At markers) ps ms
    → Contains ps p → (m : Fields) × Contains ms m × At markers p m
one_at_place markers [] ms p z h = absurd (Contains-none p h)
one_at_place markers (q ∷ ps) [] p z h = absurd z
one_at_place markers (q ∷ ps) (x ∷ ms) p z h = elim (Contains-cons_cases q ps p h) [
  | inl same ↦ (x, Contains-first x ms, subst (λ k. At markers k x) same z.0)
  | inr later ↦ (let r = one_at_place markers ps ms p z.1 later in (r.0, Contains-later x ms r.0 r.1, r.2))
]

-- ---- no two of them are equal

different_first : (m : Fields) (ms : List Fields) → ((n : Fields) → Contains ms n → m ≢ n) → AreDifferent ms
    → AreDifferent (m ∷ ms)
different_first m ms others rest zero zero d l within = absurd (omega (arith, l))
different_first m ms others rest zero (suc j) d l within =
    others (get_or ms j d) (Contains-get_or ms j d (omega (arith, within)))
different_first m ms others rest (suc i) zero d l within = absurd (omega (arith, l))
different_first m ms others rest (suc i) (suc j) d l within = rest i j d (omega (arith, l)) (omega (arith, within))

apart_at : (markers : List Fields) → AreDifferent markers → (p q : ℕ) (m n : Fields) → p < q → At markers p m
    → At markers q n → m ≢ n
apart_at markers different p q m n l at_p at_q e = different p q m l (slice_get_within markers q n at_q)
    (get_or_from_slice_get markers p m m at_p ∙ e ∙ sym (get_or_from_slice_get markers q n m at_q))

pub different_there : (markers : List Fields) → AreDifferent markers → (ps : List ℕ) (ms : List Fields)
    → AllPairs (λ a b. a < b) ps → AllZip (At markers) ps ms → AreDifferent ms
different_there markers different [] [] up z = λ i j d l within. absurd (omega (arith, within))
different_there markers different [] (x ∷ ms) up z = absurd z
different_there markers different (p ∷ ps) [] up z = absurd z
different_there markers different (p ∷ ps) (x ∷ ms) up z = different_first x ms
    (λ y h. let r = place_of_one markers ps ms y z.1 h in
    apart_at markers different p r.0 x y (ascending_head p ps r.0 up r.1) z.0 r.2)
    (different_there markers different ps ms (ascending_rest p ps up) z.1)

-- ---- sums

split_at_one : (ms : List Fields) (m : Fields) → Contains ms m → (a : List Fields) × (b : List Fields)
    × (ms ≡ a ++ m ∷ b)
split_at_one [] m h = absurd (Contains-none m h)
split_at_one (x ∷ ms) m h = elim (Contains-cons_cases x ms m h) [
  | inl same ↦ ([], ms, ap (λ (y : Fields). y ∷ ms) same)
  | inr later ↦ (let r = split_at_one ms m later in (x ∷ r.0, r.1, ap (λ (ns : List Fields). x ∷ ns) r.2))
]

module _ (w : Fields → ℕ) where
  total : List Fields → ℕ
  total ms = sum (map w ms)

  total-append : (ms ns : List Fields) → total (ms ++ ns) ≡ total ms + total ns
  unfolding total
  total-append ms ns = ap sum (map-append w ms ns) ∙ sum_by-append (λ n. n) (map w ms) (map w ns)

  total-first : (m : Fields) (ms : List Fields) → total (m ∷ ms) ≡ w m + total ms
  unfolding total
  total-first m ms = total-append (m ∷ []) ms ∙ ap (λ k. k + total ms) (zero-add (w m))

  -- different ones among others come to no more than those
  pub sum_among : (ms ns : List Fields) → AreDifferent ms → ((m : Fields) → Contains ms m → Contains ns m)
      → sum (map w ms) ≤ sum (map w ns)
  unfolding total
  sum_among [] ns different among = omega arith
  sum_among (m ∷ ms) ns different among =
      let s = split_at_one ns m (among m (Contains-first m ms)) in
      let fewer : total ms ≤ total (s.0 ++ s.1) = sum_among ms (s.0 ++ s.1)
      (λ i j d l within. different (suc i) (suc j) d (omega arith) (omega arith))
      (λ y h. elim (Contains-append_cases s.0 (m ∷ s.1) y
      (subst (λ (zs : List Fields). Contains zs y) s.2 (among y (Contains-later m ms y h)))) [
        | inl before ↦ Contains-append_left s.0 s.1 y before
        | inr here ↦ elim (Contains-cons_cases m s.1 y here) [
          | inl same ↦ absurd (different 0 (suc h.0) y (omega arith) (omega (arith, h.1)) (same ∙ sym h.2))
          | inr after ↦ Contains-append_right s.0 s.1 y after
        ]
      ]) in
      let whole : total ns ≡ total s.0 + total (m ∷ s.1) = ap total s.2 ∙ total-append s.0 (m ∷ s.1) in
      let here : total (m ∷ s.1) ≡ w m + total s.1 = total-first m s.1 in
      let all : total (m ∷ ms) ≡ w m + total ms = total-first m ms in
      let rest = total-append s.0 s.1 in
      let le : total (m ∷ ms) ≤ total ns = omega (arith, whole, here, all, rest, fewer) in
      le
