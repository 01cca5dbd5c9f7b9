-- The one written spelling, as the form in which texts are kept.
use Rattle.std.proofs.Common.{◌≡◌, ℕ, suc, ◌+◌, Bool, true, false, cond, eqb, List, [], ◌∷◌, ◌++◌, length, map, Some}
use Rattle.std.proofs.Common.{refl, sym, ap, subst, ◌∙◌, arith, append_assoc}
use Rattle.std.specs.Prelude.{nat_eq}
use Rattle.std.specs.List.{join_with_byte, list_all, AllByRecursion}
use Rattle.std.specs.Ordering.{is_eq}
use Rattle.std.specs.declared.cmp.Ordering.{Ordering}
use Rattle.std.specs.declared.cmp.Ordering.TheVariants.{Less, Equal, Greater}
use Rattle.std.specs.FinMap.{find, get, entries, from_entries, entries_sorted}
use Rattle.std.specs.FinMap.{get-from_entries, same_entries_map, slice_cmp-IsAntisymmetric, nat_cmp-IsAntisymmetric}
use Rattle.std.proofs.lemmas.Bool.{or_parts, or_from, not-true, not_from_false}
use Rattle.std.proofs.lemmas.Cmp.{nat_list_cmp_total, tied_itself}
use Rattle.std.specs.Cmp.Lexicographic.{pointwise, bytes_decides}
use Rattle.std.proofs.lemmas.List.{append-nil, length-append}
use Rattle.std.proofs.lemmas.List.Folds.{list_any_none}
use Rattle.hg_marker.specs.Texts.{Texts, bytes_cmp}
use Rattle.hg_marker.specs.Same.{same_texts, texts_decides}
use Rattle.hg_marker.specs.Making.{ends_key, has_bad_key, has_bad_value, is_writable}
use Rattle.hg_marker.specs.Metadata.{is_nul, has_colon, piece, pieces, entry, texts, written, IsClean}
use Rattle.hg_marker.specs.Written.{IsWritten, with_piece, with_pieces}
use Rattle.hg_marker.proofs.TextsLemmas.{to_true}
use Rattle.hg_marker.proofs.ReadLemmas.{tested_is_clean}
use Rattle.hg_marker.proofs.WrittenLemmas.{is_written, pieces_joined, entries_again, same_entries}
use Rattle.hg_marker.proofs.WritingLemmas.{further, joined-cons}

-- ---- texts that can be written

pub writable_parts : (m : Texts) → is_writable m ≡ true
    → (has_bad_key (entries m) ≡ false) × (has_bad_value (entries m) ≡ false)
writable_parts m h = or_parts _ _ (not-true _ h)

pub writable_from : (m : Texts) → has_bad_key (entries m) ≡ false → has_bad_value (entries m) ≡ false
    → is_writable m ≡ true
writable_from m k v = not_from_false _ (or_from _ _ k v)

writable_is_clean : (m : Texts) → is_writable m ≡ true → AllByRecursion IsClean (entries m)
writable_is_clean m h = let p = writable_parts m h in tested_is_clean (entries m) p.0 p.1

clean_keys : (es : List (List ℕ × List ℕ)) → AllByRecursion IsClean es → has_bad_key es ≡ false
clean_keys [] h = refl
clean_keys (e ∷ es) h =
    or_from _ _ (list_any_none ends_key e.0 (λ i d lt. or_from _ _ (h.0.key_nul i d lt) (h.0.key_colon i d lt)))
    (clean_keys es h.1)

clean_values : (es : List (List ℕ × List ℕ)) → AllByRecursion IsClean es → has_bad_value es ≡ false
clean_values [] h = refl
clean_values (e ∷ es) h = or_from _ _ (list_any_none is_nul e.1 h.0.text_nul) (clean_values es h.1)

pub clean_is_writable : (m : Texts) → AllByRecursion IsClean (entries m) → is_writable m ≡ true
clean_is_writable m h = writable_from m (clean_keys (entries m) h) (clean_values (entries m) h)

pub spelled_again : (m : Texts) → is_writable m ≡ true → texts (pieces (written m)) ≡ m
spelled_again m h = sym (is_written m (writable_is_clean m h)).texts

-- what is written is the written spelling
pub written_form : (m : Texts) → is_writable m ≡ true → IsWritten (written m)
written_form m h = record {
  writable = ap is_writable (spelled_again m h) ∙ h;
  same = ap written (sym (spelled_again m h));
}

pub written_so : (m : Texts) (bytes : List ℕ) → bytes ≡ written m → is_writable m ≡ true → IsWritten bytes
written_so m bytes e h = subst IsWritten (sym e) (written_form m h)

pub spelled_so : (m : Texts) (bytes : List ℕ) → bytes ≡ written m → is_writable m ≡ true → texts (pieces bytes) ≡ m
spelled_so m bytes e h = ap (λ (b : List ℕ). texts (pieces b)) e ∙ spelled_again m h

-- ---- the pieces of the written spelling

pub written_entries : (bytes : List ℕ) → IsWritten bytes → map entry (pieces bytes) ≡ entries (texts (pieces bytes))
unfolding written
written_entries bytes h =
    let m = texts (pieces bytes) in
    let clean = writable_is_clean m h.writable in
    let parts : pieces bytes ≡ map piece (entries m) = ap pieces h.same ∙ pieces_joined (entries m) clean in
    ap (map entry) parts ∙ entries_again (entries m) clean

-- and have colons
pub written_colons : (bytes : List ℕ) → IsWritten bytes → list_all has_colon (pieces bytes) ≡ true
written_colons bytes h =
    let m = texts (pieces bytes) in
    ap (λ b. list_all has_colon (pieces b)) h.same ∙ (is_written m (writable_is_clean m h.writable)).colons

pub from_own : (m : Texts) → from_entries {R = bytes_cmp} (entries m) ≡ m
from_own m = same_entries_map _ _ (same_entries (entries m) (to_true _ (entries_sorted m)))

pub get_is : (m : Texts) (q : List ℕ) → get m q ≡ find bytes_cmp q (entries m)
get_is m q = ap (λ (n : Texts). get n q) (sym (from_own m)) ∙ get-from_entries nat_list_cmp_total (entries m) q

same_answer : (x y : Bool) → (x ≡ true → y ≡ true) → (y ≡ true → x ≡ true) → x ≡ y
same_answer true y h k = sym (h refl)
same_answer false true h k = k refl
same_answer false false h k = refl

-- the same bytes, the same texts
pub same_written : (a b : List ℕ) → IsWritten a → IsWritten b
    → pointwise nat_eq a b ≡ same_texts (texts (pieces a)) (texts (pieces b))
same_written a b h k =
    let each = texts_decides (texts (pieces a)) (texts (pieces b)) in
    same_answer _ _ (λ e. each.1 (ap (λ (t : List ℕ). texts (pieces t)) ((bytes_decides a b).0 e)))
    (λ e. (bytes_decides a b).1 (h.same ∙ ap written (each.0 e) ∙ sym k.same))

-- keys are equal where they tie
pub same_key : (k q : List ℕ) → pointwise nat_eq k q ≡ is_eq (bytes_cmp q k)
same_key k q =
    same_answer _ _ (λ e. ap is_eq (ap (bytes_cmp q) ((bytes_decides k q).0 e) ∙ tied_itself nat_list_cmp_total q))
    (λ e. (bytes_decides k q).1 (sym (slice_cmp-IsAntisymmetric nat_cmp-IsAntisymmetric q k (equal _ e))))
  where
    equal : (r : Ordering) → is_eq r ≡ true → r ≡ Equal
    equal Less h = absurd cc
    equal Equal h = refl
    equal Greater h = absurd cc

pub found_here : (k v q : List ℕ) (es : List (List ℕ × List ℕ)) → pointwise nat_eq k q ≡ true
    → find bytes_cmp q ((k, v) ∷ es) ≡ Some v
found_here k v q es h = ap (λ b. cond b (Some v) (find bytes_cmp q es)) (sym (same_key k q) ∙ h)

pub found_later : (k v q : List ℕ) (es : List (List ℕ × List ℕ)) → pointwise nat_eq k q ≡ false
    → find bytes_cmp q ((k, v) ∷ es) ≡ find bytes_cmp q es
found_later k v q es h = ap (λ b. cond b (Some v) (find bytes_cmp q es)) (sym (same_key k q) ∙ h)

-- ---- a further piece

further-append : (es fs : List (List ℕ × List ℕ)) → further (es ++ fs) ≡ further es ++ further fs
further-append [] fs = refl
further-append (e ∷ es) fs =
    ap (λ (t : List ℕ). 0 ∷ piece e ++ t) (further-append es fs)
    ∙ ap (λ (t : List ℕ). 0 ∷ t) (sym (append_assoc (piece e) (further es) (further fs)))

long_joined : (e : List ℕ × List ℕ) (es : List (List ℕ × List ℕ)) → eqb (length (piece e ++ further es)) 0 ≡ false
long_joined e es =
    let n : length (piece e ++ further es) ≡ length e.0 + suc (length e.1) + length (further es) =
    omega (arith, length-append (piece e) (further es), length-append e.0 (58 ∷ e.1)) in
    grind arith

joined_last : (es : List (List ℕ × List ℕ)) (f : List ℕ × List ℕ)
    → join_with_byte 0 (map piece (es ++ f ∷ [])) ≡ with_piece (join_with_byte 0 (map piece es)) f
joined_last [] f = refl
joined_last (e ∷ es) f =
    joined-cons e (es ++ f ∷ [])
    ∙ ap (λ (t : List ℕ). piece e ++ t)
    (further-append es (f ∷ []) ∙ ap (λ (t : List ℕ). further es ++ 0 ∷ t) (append-nil (piece f)))
    ∙ sym (append_assoc (piece e) (further es) (0 ∷ piece f))
    ∙ sym (ap (λ (b : Bool). cond b (piece f) ((piece e ++ further es) ++ 0 ∷ piece f)) (long_joined e es))
    ∙ ap (λ (t : List ℕ). with_piece t f) (sym (joined-cons e es))

-- pieces that are pushed one after the other are joined
pub pushed_joined : (es fs : List (List ℕ × List ℕ))
    → with_pieces (join_with_byte 0 (map piece es)) fs ≡ join_with_byte 0 (map piece (es ++ fs))
pushed_joined es [] = ap (λ (xs : List (List ℕ × List ℕ)). join_with_byte 0 (map piece xs)) (sym (append-nil es))
pushed_joined es (f ∷ fs) =
    ap (λ (t : List ℕ). with_pieces t fs) (sym (joined_last es f)) ∙ pushed_joined (es ++ f ∷ []) fs
    ∙ ap (λ (xs : List (List ℕ × List ℕ)). join_with_byte 0 (map piece xs)) (append_assoc es (f ∷ []) fs)
