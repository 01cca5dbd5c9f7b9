-- Bytes whose keys ascend, with nothing beside the pieces, are the written spelling.
use Rattle.std.proofs.Common.{◌≡◌, ℕ, suc, ◌+◌, ◌≤◌, true, false, cond, not, eqb, List, [], ◌∷◌, ◌++◌, length}
use Rattle.std.proofs.Common.{map, reverse, take, drop, get_or, Some, None, refl, sym, ap, ◌∙◌, arith}
use Rattle.std.specs.List.{list_all, slice_split, join_with_byte, position_or_len}
use Rattle.std.specs.Ordering.{is_lt}
use Rattle.std.specs.declared.cmp.Ordering.{Ordering}
use Rattle.std.specs.declared.cmp.Ordering.TheVariants.{Less, Equal, Greater}
use Rattle.std.specs.FinMap.{entries, from_entries, is_sorted}
use Rattle.std.specs.FinMap.Entries.{below_all}
use Rattle.std.proofs.lemmas.Bool.{and_parts, and_from, eqb-true}
use Rattle.std.proofs.lemmas.Cmp.{nat_list_cmp_total}
use Rattle.std.proofs.lemmas.List.{take-append-drop}
use Rattle.std.proofs.lemmas.List.Sums.{passes_at_first}
use Rattle.std.proofs.Math.Seq.{drop-cons}
use Rattle.std.proofs.lemmas.List.Splits.{join_with_byte-slice_split}
use Rattle.hg_marker.specs.Texts.{bytes_cmp}
use Rattle.hg_marker.specs.Metadata.{is_nul, is_colon, nonempty, has_colon, piece, pieces, entry, texts, written}
use Rattle.hg_marker.specs.Making.{is_writable}
use Rattle.hg_marker.specs.Written.{IsWritten, ascends, with_pieces}
use Rattle.hg_marker.proofs.ReadLemmas.{read_is_clean, weight, span, weight_entries, span-nonempty, span-slice_split}
use Rattle.hg_marker.proofs.ReadLemmas.{past_colon}
use Rattle.hg_marker.proofs.WrittenLemmas.{same_entries, any_order}
use Rattle.hg_marker.proofs.FormLemmas.{clean_is_writable, pushed_joined}

-- ---- keys that ascend

less : (r : Ordering) → is_lt r ≡ true → r ≡ Less
less Less h = refl
less Equal h = absurd cc
less Greater h = absurd cc

below_more : (k j : List ℕ) (es : List (List ℕ × List ℕ)) → is_lt (bytes_cmp k j) ≡ true
    → below_all bytes_cmp j es ≡ true → below_all bytes_cmp k es ≡ true
below_more k j [] h all = refl
below_more k j (e ∷ es) h all =
    let p = and_parts _ _ all in
    and_from _ _ (ap is_lt (nat_list_cmp_total.trans k j e.0 (less _ h) (less _ p.0))) (below_more k j es h p.1)

sorted_behind : (k : List ℕ) (es : List (List ℕ × List ℕ)) → ascends (Some k) es ≡ true
    → (below_all bytes_cmp k es ≡ true) × (is_sorted bytes_cmp es ≡ true)
sorted_behind k [] h = (refl, refl)
sorted_behind k (e ∷ es) h =
    let p = and_parts _ _ h in
    let more = sorted_behind e.0 es p.1 in
    (and_from _ _ p.0 (below_more k e.0 es p.0 more.0), and_from _ _ more.0 more.1)

sorted_all : (es : List (List ℕ × List ℕ)) → ascends None es ≡ true → is_sorted bytes_cmp es ≡ true
sorted_all [] h = refl
sorted_all (e ∷ es) h = let more = sorted_behind e.0 es h in and_from _ _ more.0 more.1

-- ---- nothing beside the pieces

none_dropped : (ps : List (List ℕ)) → span (nonempty ps) ≡ span ps → nonempty ps ≡ ps
none_dropped [] h = refl
none_dropped (p ∷ ps) h =
    elim (eqb (length p) 0) as (λ b. span (cond (not b) (p ∷ nonempty ps) (nonempty ps)) ≡ span (p ∷ ps)
    → cond (not b) (p ∷ nonempty ps) (nonempty ps) ≡ p ∷ ps) [
      | true ↦ λ same. absurd (omega (arith, same, span-nonempty ps))
      | false ↦ λ same. ap (λ (r : List (List ℕ)). p ∷ r) (none_dropped ps (omega (arith, same)))
    ] h

piece_again : (p : List ℕ) → has_colon p ≡ true → piece (entry p) ≡ p
piece_again p h =
    let n = position_or_len is_colon p in
    let within = past_colon p h in
    let colon : get_or p n 0 ≡ 58 = eqb-true _ _ (passes_at_first is_colon p 0 within) in
    let more : suc n ≡ n + 1 = omega arith in
    let after : drop n p ≡ 58 ∷ drop (n + 1) p = drop-cons p n 0 within ∙ ap (λ (k : ℕ). get_or p n 0 ∷ drop k p) more
    ∙ ap (λ (b : ℕ). b ∷ drop (n + 1) p) colon in
    ap (λ (t : List ℕ). take n p ++ t) (sym after) ∙ take-append-drop n p

pieces_again : (ps : List (List ℕ)) → list_all has_colon ps ≡ true → map piece (map entry ps) ≡ ps
pieces_again [] h = refl
pieces_again (p ∷ ps) h =
    let c = and_parts _ _ h in
    ap (λ (q : List ℕ). q ∷ map piece (map entry ps)) (piece_again p c.0)
    ∙ ap (λ (r : List (List ℕ)). p ∷ r) (pieces_again ps c.1)

-- the texts that bytes spell can be written
pub writable : (bytes : List ℕ) → list_all has_colon (pieces bytes) ≡ true → is_writable (texts (pieces bytes)) ≡ true
writable bytes colons =
    clean_is_writable (texts (pieces bytes))
    (read_is_clean (texts (pieces bytes)) bytes (record { colons = colons; texts = refl }))

-- the pieces are joined as they stand
joined_pieces : (bytes : List ℕ) → list_all has_colon (pieces bytes) ≡ true
    → weight (map entry (pieces bytes)) ≡ length bytes + 1 → join_with_byte 0 (pieces bytes) ≡ bytes
joined_pieces bytes colons weighs =
    let kept : nonempty (slice_split is_nul bytes) ≡ slice_split is_nul bytes =
    none_dropped (slice_split is_nul bytes)
    (omega (arith, sym (weight_entries (pieces bytes) colons), weighs, span-slice_split bytes)) in
    ap (join_with_byte 0) kept ∙ join_with_byte-slice_split 0 bytes

in_order : (bytes : List ℕ) → list_all has_colon (pieces bytes) ≡ true
    → is_sorted bytes_cmp (map entry (pieces bytes)) ≡ true → join_with_byte 0 (pieces bytes) ≡ bytes
    → bytes ≡ written (texts (pieces bytes))
unfolding written
in_order bytes colons sorted joined =
    let es = map entry (pieces bytes) in
    let listed : entries (texts (pieces bytes)) ≡ es = ap entries (any_order es sorted) ∙ same_entries es sorted in
    sym (ap (λ (xs : List (List ℕ × List ℕ)). join_with_byte 0 (map piece xs)) listed
    ∙ ap (join_with_byte 0) (pieces_again (pieces bytes) colons) ∙ joined)

-- entries that ascend are those of their map
pub listed_so : (es : List (List ℕ × List ℕ)) → ascends None es ≡ true
    → entries (from_entries {R = bytes_cmp} (reverse es)) ≡ es
listed_so es ascent = let sorted = sorted_all es ascent in ap entries (any_order es sorted) ∙ same_entries es sorted

-- one behind the other they are the written spelling of their map
pub laid : (es : List (List ℕ × List ℕ)) → ascends None es ≡ true
    → with_pieces [] es ≡ written (from_entries {R = bytes_cmp} (reverse es))
unfolding written
laid es ascent =
    pushed_joined [] es
    ∙ ap (λ (xs : List (List ℕ × List ℕ)). join_with_byte 0 (map piece xs)) (sym (listed_so es ascent))

-- what the walk over the pieces found
pub ascending_is_written : (bytes : List ℕ) (len : ℕ) → list_all has_colon (pieces bytes) ≡ true
    → ascends None (map entry (pieces bytes)) ≡ true → len ≡ weight (map entry (pieces bytes)) → len ≡ length bytes + 1
    → IsWritten bytes
ascending_is_written bytes len colons ascent counted whole = record {
  writable = writable bytes colons;
  same = in_order bytes colons (sorted_all (map entry (pieces bytes)) ascent)
      (joined_pieces bytes colons (sym counted ∙ whole));
}

pub nothing_is_written : (bytes : List ℕ) → list_all has_colon (pieces bytes) ≡ true
    → ascends None (map entry (pieces bytes)) ≡ true → bytes ≡ [] → IsWritten bytes
nothing_is_written bytes colons ascent none = record {
  writable = writable bytes colons;
  same = in_order bytes colons (sorted_all (map entry (pieces bytes)) ascent)
      (ap (λ (b : List ℕ). join_with_byte 0 (pieces b)) none ∙ sym none);
}

-- the sum stays within the bytes
pub weighs_little : (bytes : List ℕ) → list_all has_colon (pieces bytes) ≡ true
    → weight (map entry (pieces bytes)) ≤ length bytes + 1
weighs_little bytes colons =
    omega (
      arith,
      weight_entries (pieces bytes) colons,
      span-nonempty (slice_split is_nul bytes),
      span-slice_split bytes,
    )
