-- Bytes are in the order of the numbers that they write, and equal where these are.
use Rattle.std.proofs.Common.{◌≡◌, ℕ, zero, suc, ◌+◌, ◌*◌, ◌^◌, ◌<◌, ◌≤◌, ◌==◌, ◌&&◌, nat_eq, List, [], ◌∷◌, length}
use Rattle.std.proofs.Common.{take, drop, refl, sym, ap, ◌∙◌, arith}
use Rattle.std.proofs.Math.Nat.{pow-suc, mul_comm}
use Rattle.std.proofs.lemmas.Nat.{mul-add-lt}
use Rattle.std.proofs.lemmas.List.{length-take-le, length-drop, drop-drop}
use Rattle.std.proofs.lemmas.Cmp.{ranked}
use Rattle.std.specs.declared.cmp.Ordering.{Ordering}
use Rattle.std.specs.declared.cmp.Ordering.TheVariants.{Less, Equal, Greater}
use Rattle.std.specs.Ordering.{MatchOrdering, nat_cmp, ordering_then, is_eq}
use Rattle.std.specs.Cmp.{nat_cmp_is, unsigned_ties, both_tied}
use Rattle.std.specs.Cmp.Lexicographic.{slice_cmp, texts_ties}
use lib.Pointwise.{pointwise}
use Rattle.hex.specs.Hex.{IsBytes}
use Rattle.hg_changeset.specs.BigEndian.{big_endian}

-- a byte weighs more than all that follow it
big_endian_below : (xs : List ℕ) → IsBytes xs → big_endian xs < 256 ^ length xs
big_endian_below [] h = omega arith
big_endian_below (x ∷ xs) h =
    let first : x < 256 = h 0 in
    let rest : IsBytes xs = λ i. h (suc i) in
    rw (pow-suc 256 (length xs)) (mul-add-lt x (256 ^ length xs) (big_endian xs) 256 first (big_endian_below xs rest))

heavier : (x y p q w : ℕ) → x < y → p < w → x * w + p < y * w + q
heavier x y p q w l h = omega (arith, mul-add-lt x w p y l h, mul_comm w y)

-- where the first bytes are equal, the rests decide
same_first : (x y p q w : ℕ) (o : Ordering) → x ≡ y → MatchOrdering o (p < q) (p ≡ q) (q < p)
    → MatchOrdering o (x * w + p < y * w + q) (x * w + p ≡ y * w + q) (y * w + q < x * w + p)
same_first x y p q w Less e l = omega (arith, ap (λ z. z * w) e)
same_first x y p q w Equal e l = omega (arith, ap (λ z. z * w) e)
same_first x y p q w Greater e l = omega (arith, ap (λ z. z * w) e)

weighed : (x y p q w : ℕ) → p < w → q < w
    → nat_cmp (x * w + p) (y * w + q) ≡ ordering_then (nat_cmp x y) (nat_cmp p q)
weighed x y p q w h k = by (nat_cmp x y) (ranked x y (nat_cmp x y) refl)
  where
    by : (o : Ordering) → MatchOrdering o (x < y) (x ≡ y) (y < x)
        → nat_cmp (x * w + p) (y * w + q) ≡ ordering_then o (nat_cmp p q)
    by Less l = sym (nat_cmp_is (x * w + p) (y * w + q) Less (heavier x y p q w l h))
    by Equal e = sym (nat_cmp_is (x * w + p) (y * w + q) (nat_cmp p q)
        (same_first x y p q w (nat_cmp p q) e (ranked p q (nat_cmp p q) refl)))
    by Greater l = sym (nat_cmp_is (x * w + p) (y * w + q) Greater (heavier y x q p w l k))

-- as many bytes are in the order of the numbers that they write
slice_cmp-big_endian : (xs ys : List ℕ) → length xs ≡ length ys → IsBytes xs → IsBytes ys
    → slice_cmp nat_cmp xs ys ≡ nat_cmp (big_endian xs) (big_endian ys)
slice_cmp-big_endian [] [] e h k = refl
slice_cmp-big_endian [] (y ∷ ys) e h k = absurd (omega arith)
slice_cmp-big_endian (x ∷ xs) [] e h k = absurd (omega arith)
slice_cmp-big_endian (x ∷ xs) (y ∷ ys) e h k =
    let long : length xs ≡ length ys = omega arith in
    let first : IsBytes xs = λ i. h (suc i) in
    let second : IsBytes ys = λ i. k (suc i) in
    let below : big_endian ys < 256 ^ length xs = rw long (big_endian_below ys second) in
    ap (ordering_then (nat_cmp x y)) (slice_cmp-big_endian xs ys long first second)
    ∙ sym (weighed x y (big_endian xs) (big_endian ys) (256 ^ length xs) (big_endian_below xs first) below)
    ∙ ap (λ (n : ℕ). nat_cmp (x * 256 ^ length xs + big_endian xs) (y * 256 ^ n + big_endian ys)) long

then_assoc : (a b c : Ordering) → ordering_then a (ordering_then b c) ≡ ordering_then (ordering_then a b) c
then_assoc Less b c = refl
then_assoc Equal b c = refl
then_assoc Greater b c = refl

-- the fronts decide, and then what follows them
slice_cmp-parts : (k : ℕ) (xs ys : List ℕ) → length xs ≡ length ys
    → slice_cmp nat_cmp xs ys ≡ ordering_then (slice_cmp nat_cmp (take k xs) (take k ys))
    (slice_cmp nat_cmp (drop k xs) (drop k ys))
slice_cmp-parts zero xs ys e = refl
slice_cmp-parts (suc k) [] [] e = refl
slice_cmp-parts (suc k) [] (y ∷ ys) e = absurd (omega arith)
slice_cmp-parts (suc k) (x ∷ xs) [] e = absurd (omega arith)
slice_cmp-parts (suc k) (x ∷ xs) (y ∷ ys) e =
    ap (ordering_then (nat_cmp x y)) (slice_cmp-parts k xs ys (omega arith))
    ∙ then_assoc (nat_cmp x y) (slice_cmp nat_cmp (take k xs) (take k ys))
    (slice_cmp nat_cmp (drop k xs) (drop k ys))

IsBytes-drop : (k : ℕ) (xs : List ℕ) → IsBytes xs → IsBytes (drop k xs)
IsBytes-drop zero xs h i = h i
IsBytes-drop (suc k) [] h i = h i
IsBytes-drop (suc k) (x ∷ xs) h i = IsBytes-drop k xs (λ j. h (suc j)) i

IsBytes-take : (k : ℕ) (xs : List ℕ) → IsBytes xs → IsBytes (take k xs)
IsBytes-take zero xs h i = omega arith
IsBytes-take (suc k) [] h i = h i
IsBytes-take (suc k) (x ∷ xs) h zero = h 0
IsBytes-take (suc k) (x ∷ xs) h (suc i) = IsBytes-take k xs (λ j. h (suc j)) i

-- eight bytes are in the order of their numbers, and what follows them goes on
eight_first : (xs ys : List ℕ) → length xs ≡ length ys → IsBytes xs → IsBytes ys → 8 ≤ length xs
    → slice_cmp nat_cmp xs ys ≡ ordering_then (nat_cmp (big_endian (take 8 xs)) (big_endian (take 8 ys)))
    (slice_cmp nat_cmp (drop 8 xs) (drop 8 ys))
eight_first xs ys e h k l =
    let long : length (take 8 xs) ≡ length (take 8 ys) =
    omega (arith, length-take-le 8 xs l, length-take-le 8 ys (omega arith)) in
    slice_cmp-parts 8 xs ys e
    ∙ ap (λ (o : Ordering). ordering_then o (slice_cmp nat_cmp (drop 8 xs) (drop 8 ys)))
    (slice_cmp-big_endian (take 8 xs) (take 8 ys) long (IsBytes-take 8 xs h) (IsBytes-take 8 ys k))

-- twenty bytes are in the order of their three numbers
pub numbers_order : (xs ys : List ℕ) → length xs ≡ 20 → length ys ≡ 20 → IsBytes xs → IsBytes ys
    → slice_cmp nat_cmp xs ys ≡ ordering_then (nat_cmp (big_endian (take 8 xs)) (big_endian (take 8 ys)))
    (ordering_then (nat_cmp (big_endian (take 8 (drop 8 xs))) (big_endian (take 8 (drop 8 ys))))
    (nat_cmp (big_endian (drop 16 xs)) (big_endian (drop 16 ys))))
numbers_order xs ys m n h k =
    let first = length-drop 8 xs in
    let second = length-drop 8 ys in
    let last = length-drop 16 xs in
    let other = length-drop 16 ys in
    let rest : slice_cmp nat_cmp (drop 8 (drop 8 xs)) (drop 8 (drop 8 ys))
    ≡ nat_cmp (big_endian (drop 16 xs)) (big_endian (drop 16 ys)) =
    (λ i. slice_cmp nat_cmp (drop-drop 8 8 xs i) (drop-drop 8 8 ys i))
    ∙ slice_cmp-big_endian (drop 16 xs) (drop 16 ys) (omega arith) (IsBytes-drop 16 xs h) (IsBytes-drop 16 ys k) in
    eight_first xs ys (omega arith) h k (omega arith)
    ∙ ap (ordering_then (nat_cmp (big_endian (take 8 xs)) (big_endian (take 8 ys))))
    (eight_first (drop 8 xs) (drop 8 ys) (omega arith) (IsBytes-drop 8 xs h) (IsBytes-drop 8 ys k) (omega arith)
    ∙ ap (ordering_then (nat_cmp (big_endian (take 8 (drop 8 xs))) (big_endian (take 8 (drop 8 ys))))) rest)

-- twenty bytes are equal where their three numbers are
pub same_bytes : (xs ys : List ℕ) → length xs ≡ 20 → length ys ≡ 20 → IsBytes xs → IsBytes ys
    → pointwise nat_eq xs ys ≡ (((big_endian (take 8 xs) == big_endian (take 8 ys))
    && (big_endian (take 8 (drop 8 xs)) == big_endian (take 8 (drop 8 ys))))
    && (big_endian (drop 16 xs) == big_endian (drop 16 ys)))
same_bytes xs ys m n h k =
    let f = nat_cmp (big_endian (take 8 xs)) (big_endian (take 8 ys)) in
    let g = nat_cmp (big_endian (take 8 (drop 8 xs))) (big_endian (take 8 (drop 8 ys))) in
    let e = nat_cmp (big_endian (drop 16 xs)) (big_endian (drop 16 ys)) in
    texts_ties xs ys
    ∙ ap is_eq (numbers_order xs ys m n h k ∙ then_assoc f g e)
    ∙ sym (both_tied _ _ (ordering_then f g) e
    (both_tied _ _ f g (unsigned_ties (big_endian (take 8 xs)) (big_endian (take 8 ys)))
    (unsigned_ties (big_endian (take 8 (drop 8 xs))) (big_endian (take 8 (drop 8 ys)))))
    (unsigned_ties (big_endian (drop 16 xs)) (big_endian (drop 16 ys))))
