-- Pieces of metadata, one after another.
use Rattle.std.proofs.Common.{◌≡◌, ℕ, ◌+◌, Bool, true, false, cond, not, eqb, List, [], ◌∷◌, ◌++◌, length, take, drop}
use Rattle.std.proofs.Common.{map, reverse, Option, Some, None, ltb, sym, ap, ◌∙◌, arith, append_assoc}
use Rattle.std.specs.Prelude.{position}
use Rattle.memchr.specs.Find.{IsFirstByte, is_byte}
use Rattle.std.specs.List.{slice_split, before_first, after_first}
use Rattle.std.proofs.lemmas.List.Splits.{slice_split_first, slice_split_none}
use Rattle.std.proofs.lemmas.List.{map-append, reverse-append, append-nil, nil_from_length}
use Rattle.std.proofs.lemmas.List.Elements.{filter-append}
use Rattle.std.proofs.lemmas.List.Folds.{list_any_none, list_any_at}
use Rattle.std.proofs.lemmas.List.Sums.{fails_before_first, position_or_len_is}
use Rattle.std.proofs.lemmas.Bool.{false_from_ne_true, le-ltb, lt-ltb}
use Rattle.std.proofs.lemmas.List.Quantifiers.{position-Some}
use Rattle.std.specs.FinMap.{from_entries, insert}
use Rattle.hg_changeset.proofs.ListLemmas.{position-found, position-none}
use Rattle.hg_marker.specs.Texts.{Texts, bytes_cmp}
use Rattle.hg_marker.specs.Metadata.{is_nul, is_colon, nonempty, has_colon, entry, texts, pieces}

-- ---- the first piece

first_apart : (p : List ℕ) (ps : List (List ℕ)) → nonempty (p ∷ ps) ≡ nonempty (p ∷ []) ++ nonempty ps
first_apart p ps = filter-append (λ q. not (eqb (length q) 0)) (p ∷ []) ps

pub first_piece : (bytes : List ℕ) (i : ℕ) → position is_nul bytes ≡ Some i
    → pieces bytes ≡ nonempty (take i bytes ∷ []) ++ pieces (drop (i + 1) bytes)
first_piece bytes i e =
    let found = position-found is_nul bytes i e in
    ap nonempty (slice_split_first is_nul bytes 0 found.0)
    ∙ first_apart (before_first is_nul bytes) (slice_split is_nul (after_first is_nul bytes))
    ∙ ap (λ (n : ℕ). nonempty (take n bytes ∷ []) ++ pieces (drop (n + 1) bytes)) found.1

pub last_piece : (bytes : List ℕ) → position is_nul bytes ≡ None → pieces bytes ≡ nonempty (bytes ∷ []) ++ pieces []
last_piece bytes e =
    let past = position-none is_nul bytes e in
    ap nonempty (slice_split_none is_nul bytes (λ k d lt. fails_before_first is_nul bytes k d (omega arith)))
    ∙ first_apart bytes []

-- ---- the walk over the pieces

-- the pieces before the rest say the metadata
pub record ReadsSoFar (bytes rest : List ℕ) (m : Texts) : Type 0 where
  pub done : List (List ℕ)
  pub parts : pieces bytes ≡ done ++ pieces rest
  pub texts : m ≡ texts done

texts_push : (qs : List (List ℕ)) (p : List ℕ) → texts (qs ++ p ∷ []) ≡ insert (texts qs) (entry p).0 (entry p).1
texts_push qs p =
    ap (λ (es : List (List ℕ × List ℕ)). from_entries {R = bytes_cmp} es)
    (ap reverse (map-append entry qs (p ∷ [])) ∙ reverse-append (map entry qs) (entry p ∷ []))

-- a piece that isn't empty is the next one
next : (bytes rest p after : List ℕ) (m : Texts) → eqb (length p) 0 ≡ false
    → pieces rest ≡ nonempty (p ∷ []) ++ pieces after → (h : ReadsSoFar bytes rest m)
    → pieces bytes ≡ h.done ++ p ∷ pieces after
next bytes rest p after m some split h =
    h.parts ∙ ap (λ (ps : List (List ℕ)). h.done ++ ps)
    (split ∙ ap (λ (b : Bool). cond (not b) (p ∷ []) [] ++ pieces after) some)

pub keeps : (bytes rest p after : List ℕ) (m : Texts) (key value : List ℕ) → eqb (length p) 0 ≡ false
    → (key, value) ≡ entry p → pieces rest ≡ nonempty (p ∷ []) ++ pieces after → ReadsSoFar bytes rest m
    → ReadsSoFar bytes after (insert m key value)
keeps bytes rest p after m key value some is split h = record {
  done = h.done ++ p ∷ [];
  parts = next bytes rest p after m some split h ∙ sym (append_assoc h.done (p ∷ []) (pieces after));
  texts = ap (λ (e : List ℕ × List ℕ). insert m e.0 e.1) is
      ∙ ap (λ (n : Texts). insert n (entry p).0 (entry p).1) h.texts ∙ sym (texts_push h.done p);
}

pub is_read : (bytes rest : List ℕ) (m : Texts) → length rest ≡ 0 → ReadsSoFar bytes rest m → m ≡ texts (pieces bytes)
is_read bytes rest m none h =
    let nothing : pieces rest ≡ [] = ap pieces (nil_from_length rest none) in
    let all : pieces bytes ≡ h.done = h.parts ∙ ap (λ (ps : List (List ℕ)). h.done ++ ps) nothing ∙ append-nil h.done in
    h.texts ∙ ap texts (sym all)

-- ---- one piece

pub split_there : (p : List ℕ) (i : ℕ) → position is_colon p ≡ Some i → (take i p, drop (i + 1) p) ≡ entry p
split_there p i e = ap (λ (n : ℕ). (take n p, drop (n + 1) p)) (sym (position-found is_colon p i e).1)

-- ---- colons

pub lacks_none : (p : List ℕ) → position is_colon p ≡ None → has_colon p ≡ false
lacks_none p e =
    let past = position-none is_colon p e in
    list_any_none is_colon p (λ k d lt. fails_before_first is_colon p k d (omega arith))

pub has_some : (p : List ℕ) (i : ℕ) → position is_colon p ≡ Some i → has_colon p ≡ true
has_some p i e = let at = position-Some is_colon p i 0 e in list_any_at is_colon p i 0 at.0 at.1

-- the first byte that passes stands at its position
pub first_is_position : (wanted : ℕ) (bytes : List ℕ) (place : Option ℕ) → IsFirstByte (is_byte wanted) bytes place
    → place ≡ position (is_byte wanted) bytes
first_is_position wanted bytes None nowhere =
    let at_end =
    position_or_len_is (is_byte wanted) bytes (length bytes) 0 (omega arith)
    (λ k l. false_from_ne_true _ (nowhere k (omega arith) l)) (λ l. absurd (omega (arith, l))) in
    sym (ap (λ n. cond (ltb n (length bytes)) (Some n) None) at_end
    ∙ ap (λ b. cond b (Some (length bytes)) None) (le-ltb (length bytes) (length bytes) (omega arith)))
first_is_position wanted bytes (Some place) found =
    let there = position_or_len_is (is_byte wanted) bytes place 0 (omega (arith, found.0.high))
    (λ k l. false_from_ne_true _ (found.0.before k (omega arith) l)) (λ l. found.1) in
    sym (ap (λ n. cond (ltb n (length bytes)) (Some n) None) there
    ∙ ap (λ b. cond b (Some place) None) (lt-ltb place (length bytes) found.0.high))
