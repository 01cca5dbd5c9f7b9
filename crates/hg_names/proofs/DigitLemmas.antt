-- Labels and the numbers that they spell.
use Rattle.std.proofs.Common.{◌≡◌, ℕ, ◌+◌, ◌*◌, ◌-◌, ◌<◌, ◌≤◌, Bool, true, false, ◌&&◌, List, [], ◌∷◌, ◌++◌}
use Rattle.std.proofs.Common.{length, take, drop, fold, nat_lt, Option, None, Some, inl, inr, if◌then◌else◌}
use Rattle.std.proofs.Common.{refl, sym, ap, subst, ◌∙◌, arith, true≢false}
use Rattle.std.specs.List.{list_all}
use Rattle.std.specs.Str.{bytes_eq}
use Rattle.std.proofs.lemmas.Bool.{cases_Bool, cases_order, cond-true, cond-false, ltb-true}
use Rattle.std.proofs.lemmas.List.{length-drop, length-take, take-append-drop}
use Rattle.std.proofs.lemmas.List.Folds.{list_all-append}
use Rattle.std.proofs.lemmas.List.Sums.{fold-append}
use Rattle.std.proofs.lemmas.Option.{none-some, same_Some}
use Rattle.std.proofs.lemmas.Slice.Eq.{bytes_eq-Decides}
use mathlib.Core.Logic.{⊎_elim}
use Rattle.hg_changeset.specs.declared.node.Node.{Node}
use Rattle.hg_names.specs.Labels.{BindsKey, BindsNode, digits_behind, is_byte, is_short, labelled_in}

-- a number above each that a label of this length spells
abbrev pub bound_of : List ℕ → ℕ
bound_of label = fold (λ bound _. bound * 256) 2 label

-- a short label leaves room
pub room : (xs : List ℕ) → length xs < 7 → bound_of xs < 1125899906842624
room [] l = omega arith
room (a ∷ []) l = omega arith
room (a ∷ b ∷ []) l = omega arith
room (a ∷ b ∷ c ∷ []) l = omega arith
room (a ∷ b ∷ c ∷ d ∷ []) l = omega arith
room (a ∷ b ∷ c ∷ d ∷ e ∷ []) l = omega arith
room (a ∷ b ∷ c ∷ d ∷ e ∷ f ∷ []) l = omega arith
room (a ∷ b ∷ c ∷ d ∷ e ∷ f ∷ g ∷ xs) l = absurd (omega arith)

-- ---- different labels spell different numbers

both : (a b : Bool) → (a && b) ≡ true → (a ≡ true) × (b ≡ true)
both true b h = (refl, h)
both false b h = absurd cc

pub same_digits : (a c : ℕ) (xs ys : List ℕ) → list_all is_byte xs ≡ true → list_all is_byte ys ≡ true
    → length xs ≡ length ys → digits_behind a xs ≡ digits_behind c ys → (a ≡ c) × (xs ≡ ys)
same_digits a c [] [] all alls long h = (h, refl)
same_digits a c [] (y ∷ ys) all alls long h = absurd (omega (arith, long))
same_digits a c (x ∷ xs) [] all alls long h = absurd (omega (arith, long))
same_digits a c (x ∷ xs) (y ∷ ys) all alls long h =
    let first = both (is_byte x) (list_all is_byte xs) all in
    let second = both (is_byte y) (list_all is_byte ys) alls in
    let rest = same_digits (a * 256 + x) (c * 256 + y) xs ys first.1 second.1 (omega (arith, long)) h in
    let x_is = ltb-true x 256 first.0 in
    let y_is = ltb-true y 256 second.0 in
    let heads : a ≡ c = omega (arith, rest.0, x_is, y_is) in
    let bytes : x ≡ y = omega (arith, rest.0, heads) in
    (heads, (λ i. bytes i ∷ rest.1 i))

-- bytes more make a number no smaller
no_less : (a : ℕ) (xs : List ℕ) → a ≤ digits_behind a xs
no_less a [] = omega arith
no_less a (x ∷ xs) = let rest = no_less (a * 256 + x) xs in omega (arith, rest)

-- a longer label spells another number
longer : (xs ys : List ℕ) → list_all is_byte xs ≡ true → list_all is_byte ys ≡ true → length xs < length ys
    → digits_behind 1 xs ≡ digits_behind 1 ys → ⊥
longer xs ys all alls lt h =
    let more = length ys - length xs in
    let front = take more ys in
    let back = drop more ys in
    let whole : ys ≡ front ++ back = sym (take-append-drop more ys) in
    let parts : (list_all is_byte front && list_all is_byte back) ≡ true =
    sym (list_all-append is_byte front back) ∙ ap (list_all is_byte) (sym whole) ∙ alls in
    let split : digits_behind 1 ys ≡ digits_behind (digits_behind 1 front) back =
    ap (digits_behind 1) whole ∙ fold-append (λ key byte. key * 256 + byte) 1 front back in
    let long : length xs ≡ length back = omega (arith, length-drop more ys, lt) in
    let one : 1 ≡ digits_behind 1 front =
    (same_digits 1 (digits_behind 1 front) xs back all (both (list_all is_byte front) (list_all is_byte back) parts).1
    long (h ∙ split)).0 in
    large front (omega (arith, length-take more ys, lt)) one
  where
    large : (zs : List ℕ) → 0 < length zs → 1 ≡ digits_behind 1 zs → ⊥
    large [] l e = omega arith
    large (z ∷ zs) l e = let least = no_less (1 * 256 + z) zs in omega (arith, least, e)

same_label : (xs ys : List ℕ) → list_all is_byte xs ≡ true → list_all is_byte ys ≡ true
    → digits_behind 1 xs ≡ digits_behind 1 ys → xs ≡ ys
same_label xs ys all alls h = elim (cases_order (length xs) (length ys)) [
  | inl e ↦ (same_digits 1 1 xs ys all alls e h).1
  | inr o ↦ elim o [
    | inl lt ↦ absurd (longer xs ys all alls lt h)
    | inr lt ↦ absurd (longer ys xs alls all lt (sym h))
  ]
]

-- a short label is bound
module _ (short new : ℕ → Option Node) (long : List ℕ → Option Node) (label : List ℕ) (n : Node)
    (is : is_short label ≡ true) (binds : BindsKey short (digits_behind 1 label) n new) where
  bytes : (xs : List ℕ) → is_short xs ≡ true → list_all is_byte xs ≡ true
  bytes xs h = (both (nat_lt (length xs) 8) (list_all is_byte xs) h).1

  by_number : (m : ℕ → Option Node) (xs : List ℕ) → is_short xs ≡ true
      → labelled_in m long xs ≡ m (digits_behind 1 xs)
  by_number m xs h = ap (λ b. if b then m (digits_behind 1 xs) else long xs) h

  by_text : (m : ℕ → Option Node) (xs : List ℕ) → is_short xs ≡ false → labelled_in m long xs ≡ long xs
  by_text m xs h = ap (λ b. if b then m (digits_behind 1 xs) else long xs) h

  same : (other : List ℕ) → bytes_eq label other ≡ true → labelled_in new long other ≡ Some n
  same other h = subst (λ xs. labelled_in new long xs ≡ Some n) ((bytes_eq-Decides label other).0 h)
      (by_number new label is ∙ binds.here)

  others_stay : (other : List ℕ) → bytes_eq label other ≡ false
      → labelled_in new long other ≡ labelled_in short long other
  others_stay other h = by (is_short other) refl
    where
      by : (b : Bool) → is_short other ≡ b → labelled_in new long other ≡ labelled_in short long other
      by true e =
          by_number new other e
          ∙ binds.others (digits_behind 1 other)
          (λ d. true≢false (sym ((bytes_eq-Decides label other).1
          (same_label label other (bytes label is) (bytes other e) (sym d))) ∙ h))
          ∙ sym (by_number short other e)
      by false e = by_text new other e ∙ sym (by_text short other e)

  pub bound_short : BindsNode (labelled_in short long) label n (labelled_in new long)
  bound_short other = ⊎_elim
      (λ h. same other h ∙ sym (cond-true (bytes_eq label other) (Some n) (labelled_in short long other) h))
      (λ h. others_stay other h ∙ sym (cond-false (bytes_eq label other) (Some n) (labelled_in short long other) h))
      (cases_Bool (bytes_eq label other))

-- the key that was found is that of a short label
pub bound_key : (short new : ℕ → Option Node) (long : List ℕ → Option Node) (label : List ℕ) (n : Node) (k : ℕ)
    → Some k ≡ (if is_short label then Some (digits_behind 1 label) else None)
    → BindsKey short k n new → BindsNode (labelled_in short long) label n (labelled_in new long)
bound_key short new long label n k h binds = by (is_short label) refl h
  where
    by : (b : Bool) → is_short label ≡ b → Some k ≡ (if b then Some (digits_behind 1 label) else None)
        → BindsNode (labelled_in short long) label n (labelled_in new long)
    by true e found =
        bound_short short new long label n e
        (subst (λ k. BindsKey short k n new) (same_Some k (digits_behind 1 label) found) binds)
    by false e found = absurd (none-some k (sym found))
