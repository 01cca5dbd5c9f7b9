-- Extras, as they are written one after another, and the order of their keys.
use Rattle.std.proofs.Common.{◌≡◌, ◌<◌, ◌≤◌, ◌+◌, ◌*◌, ℕ, List, [], ◌∷◌, ◌++◌, map, refl, ap, Vec, Global, true, false}
use Rattle.std.proofs.Common.{arith, Bool, cond, codes, length}
use Rattle.std.specs.Prelude.{◌==◌}
use Rattle.std.proofs.lemmas.Bool.Decides.{nat_tests}
use Rattle.std.proofs.lemmas.Bool.{and_parts, ltb-true, not-true}
use Rattle.std.proofs.lemmas.List.{append-nil, length-append}
use Rattle.std.proofs.lemmas.Grind.{flat_map-append}
use Rattle.std.specs.List.{join_with_byte, list_all, flat_map, AllByRecursion}
use Rattle.std.specs.List.Sorted.{IsStrictlySortedBy}
use Rattle.std.specs.Ordering.{nat_cmp}
use Rattle.std.specs.Cmp.Lexicographic.{slice_cmp}
use Rattle.std.specs.declared.cmp.Ordering.{Ordering}
use Rattle.std.specs.declared.cmp.Ordering.TheVariants.{Less}
use Rattle.hg_changeset.specs.EntryValue.{extra_bytes}
use Rattle.hg_changeset.specs.Extras.{escape, is_plain, item, extras_text, AscendByKey}

-- each item with a byte before it: `before` at the first, NUL at the others
abbrev pub led : ℕ → List (List ℕ × List ℕ) → List ℕ
led before [] = []
led before (x ∷ xs) = before ∷ (item x ++ led 0 xs)

led_cons : (before : ℕ) (x : List ℕ × List ℕ) (xs : List (List ℕ × List ℕ))
    → led before (x ∷ xs) ≡ before ∷ join_with_byte 0 (map item (x ∷ xs))
led_cons before x [] = ap (λ (s : List ℕ). before ∷ s) (append-nil (item x))
led_cons before x (y ∷ ys) = ap (λ (s : List ℕ). before ∷ (item x ++ s)) (led_cons 0 y ys)

pub extras_are_led : (xs : List (List ℕ × List ℕ)) → led 32 xs ≡ extras_text xs
extras_are_led [] = refl
extras_are_led (x ∷ xs) = led_cons 32 x xs

-- keys that ascend do so as byte strings
abbrev pub vec_cmp : Vec ℕ Global → Vec ℕ Global → Ordering
vec_cmp x y = slice_cmp nat_cmp x.items y.items

below_all : (key : List ℕ) (es : List (Vec ℕ Global × Vec ℕ Global))
    → AllByRecursion (λ y. slice_cmp nat_cmp key y.items ≡ Less) (map (λ e. e.0) es)
    → AllByRecursion (λ y. slice_cmp nat_cmp key y ≡ Less) (map (λ x. x.0) (extra_bytes es))
below_all key [] h = h
below_all key (e ∷ es) h = (h.0, below_all key es h.1)

pub ascend : (es : List (Vec ℕ Global × Vec ℕ Global)) → IsStrictlySortedBy vec_cmp (map (λ e. e.0) es)
    → AscendByKey (extra_bytes es)
unfolding IsStrictlySortedBy
ascend [] h = h
ascend (e ∷ es) h = (below_all e.0.items es h.0, ascend es h.1)

-- ---- plain bytes are written as they are

plain : (b : ℕ) → is_plain b ≡ true → escape b ≡ b ∷ []
plain b h =
    let p = and_parts _ _ h in
    let above : 13 < b = ltb-true 13 b p.0 in
    let lf : (b == 10) ≡ false = grind (arith, nat_tests) in
    let cr : (b == 13) ≡ false = grind (arith, nat_tests) in
    let nul : (b == 0) ≡ false = grind (arith, nat_tests) in
    rw (not-true (b == 92) p.1, lf, cr, nul) refl

pub all_plain : (bs : List ℕ) → list_all is_plain bs ≡ true → flat_map escape bs ≡ bs
all_plain [] h = refl
all_plain (b ∷ bs) h =
    let p = and_parts (is_plain b) (list_all is_plain bs) h in
    rw (plain b p.0, all_plain bs p.1) refl

-- ---- of a byte at most two are written

one_of_five : (c d e f : Bool) (b : ℕ) → length (cond c (codes "\\\\") (cond d (codes "\\n") (cond e (codes "\\r")
    (cond f (codes "\\0") (b ∷ []))))) ≤ 2
one_of_five true d e f b = omega arith
one_of_five false true e f b = omega arith
one_of_five false false true f b = omega arith
one_of_five false false false true b = omega arith
one_of_five false false false false b = omega arith

escaped_within : (bs : List ℕ) → length (flat_map escape bs) ≤ 2 * length bs
escaped_within [] = omega arith
escaped_within (b ∷ bs) =
    let first : length (escape b) ≤ 2 = one_of_five (b == 92) (b == 10) (b == 13) (b == 0) b in
    omega (arith, length-append (escape b) (flat_map escape bs), first, escaped_within bs)

pub item_within : (key value : List ℕ) → 1 + length (item (key, value)) ≤ 2 * (length key + length value) + 2
item_within key value = omega (
  arith,
  ap length (flat_map-append escape key (58 ∷ value)),
  length-append (flat_map escape key) (58 ∷ flat_map escape value),
  escaped_within key,
  escaped_within value,
)
