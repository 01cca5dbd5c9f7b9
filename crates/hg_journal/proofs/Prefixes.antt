-- Beginnings of one list.
use Rattle.std.proofs.Common.{◌≡◌, ◌≤◌, ◌⊎◌, inl, inr, List, [], ◌∷◌, ◌++◌, length, refl, ap, sym, ◌∙◌, subst, arith}
use Rattle.std.proofs.Common.{append_assoc, length-append}
use Rattle.std.proofs.lemmas.List.{append-nil}
use mathlib.Core.List.{IsPrefix}

pub prefix_self : {A : Type 0} (xs : List A) → IsPrefix xs xs
prefix_self xs = ([], append-nil xs)

pub prefix_trans : {A : Type 0} (xs ys zs : List A) → IsPrefix xs ys → IsPrefix ys zs → IsPrefix xs zs
prefix_trans xs ys zs p q = (p.0 ++ q.0, sym (append_assoc xs p.0 q.0) ∙ (ap (λ w. w ++ q.0) p.1 ∙ q.1))

-- two beginnings of one list are in line
pub prefix_line : {A : Type 0} (xs ys zs : List A) → IsPrefix xs zs → IsPrefix ys zs → IsPrefix xs ys ⊎ IsPrefix ys xs
prefix_line [] ys zs p q = inl (ys, refl)
prefix_line (x ∷ xs) [] zs p q = inr (x ∷ xs, refl)
prefix_line (x ∷ xs) (y ∷ ys) [] p q = absurd (cc (p.1))
prefix_line (x ∷ xs) (y ∷ ys) (z ∷ zs) p q =
    let heads : x ≡ y = cc (p.1, q.1) in
    elim (prefix_line xs ys zs (p.0, cc (p.1)) (q.0, cc (q.1)))
    [ inl a ↦ inl (a.0, cc (heads, a.1)) | inr b ↦ inr (b.0, cc (heads, b.1)) ]

-- a beginning as long as the whole is the whole
pub prefix_whole : {A : Type 0} (xs ys : List A) → IsPrefix xs ys → length ys ≤ length xs → xs ≡ ys
prefix_whole [] [] p le = refl
prefix_whole [] (y ∷ ys) p le = absurd (omega arith)
prefix_whole (x ∷ xs) [] p le = absurd (cc (p.1))
prefix_whole (x ∷ xs) (y ∷ ys) p le =
    let rest = prefix_whole xs ys (p.0, cc (p.1)) (omega arith) in cc (p.1, rest)

pub prefix_length : {A : Type 0} (xs ys : List A) → IsPrefix xs ys → length xs ≤ length ys
prefix_length xs ys p = omega (arith, sym (ap length p.1) ∙ length-append xs p.0)

-- two that begin each other are one
pub prefix_both : {A : Type 0} (xs ys : List A) → IsPrefix xs ys → IsPrefix ys xs → xs ≡ ys
prefix_both xs ys p q = prefix_whole xs ys p (prefix_length ys xs q)

-- of two in line the one that is no longer begins the other
pub line_shorter : {A : Type 0} (xs ys : List A) → IsPrefix xs ys ⊎ IsPrefix ys xs → length xs ≤ length ys →
    IsPrefix xs ys
line_shorter xs ys (inl p) le = p
line_shorter xs ys (inr q) le =
    let same : ys ≡ xs = prefix_whole ys xs q le in subst (λ (w : List _). IsPrefix w ys) same (prefix_self ys)

pub line_swap : {A : Type 0} (xs ys : List A) → IsPrefix xs ys ⊎ IsPrefix ys xs → IsPrefix ys xs ⊎ IsPrefix xs ys
line_swap xs ys (inl p) = inr p
line_swap xs ys (inr q) = inl q
