-- What is noted of an operation is written one key behind the other, in so many bytes.
use Rattle.std.proofs.Common.{◌≡◌, ℕ, Bool, true, false, cond, eqb, List, [], ◌∷◌, ◌++◌, length, reverse}
use Rattle.std.proofs.Common.{Option, Some, None}
use Rattle.std.proofs.Common.{refl, sym, ap, ◌∙◌, codes, arith, ◌||◌, ℤ, pos, negsuc, FitsSigned, w64}
use Rattle.std.proofs.Common.{w32, decimal, ◌<◌}
use Rattle.std.proofs.Common.{◌^◌, ◌+◌, ◌%◌, ◌≢◌}
use Rattle.std.proofs.Math.Bool.{or-false}
use lib.Signed.{mag}
use Rattle.std.specs.Fmt.{signed_decimal}
use Rattle.std.specs.FinMap.{entries, from_entries}
use Rattle.std.specs.List.{list_any}
use Rattle.std.specs.Option.{is_some}
use Rattle.std.proofs.lemmas.Bool.{ne_eqb}
use Rattle.std.proofs.lemmas.Fmt.{decimal_by_steps}
use Rattle.std.proofs.lemmas.List.{length-append}
use Rattle.std.proofs.lemmas.List.Folds.{list_any-append}
use Rattle.hex.specs.Hex.{encode_lower, lower_digits}
use Rattle.hex.proofs.HexLemmas.{length-encode_with}
use Rattle.hg_changeset.specs.declared.node.Node.{Node}
use Rattle.hg_changeset.specs.Node.{node_eq, null_node}
use Rattle.hg_changeset.proofs.NodeLemmas.{node_itself, node_apart}
use Rattle.hg_changeset.specs.EntryText.{date_text}
use Rattle.hg_marker.specs.Texts.{bytes_cmp}
use Rattle.hg_marker.specs.Metadata.{is_nul, piece, written}
use Rattle.hg_marker.specs.Making.{has_bad_key, has_bad_value, is_writable}
use Rattle.hg_marker.specs.declared.note.Note.{Note}
use Rattle.hg_marker.specs.Operation.{operation_entries, parents_entries, note_entries, note_texts}
use Rattle.hg_marker.specs.Parents.{is_parents_key, names_parents}
use Rattle.hg_marker.specs.Written.{ascends, with_piece, with_pieces}
use Rattle.hg_marker.proofs.FormLemmas.{writable_from}
use Rattle.hg_marker.proofs.AscentLemmas.{laid, listed_so}

-- ---- the keys

by_parents : (P : List (List ℕ × List ℕ) → Type 0) (parents : Option (Node × Node)) → P []
    → ((p : List ℕ) → P ((codes "p1", p) ∷ []))
    → ((p q : List ℕ) → P ((codes "p1", p) ∷ (codes "p2", q) ∷ [])) → P (parents_entries parents)
by_parents P None none one two = none
by_parents P (Some ps) none one two =
    elim (node_eq ps.1 null_node) as
    (λ b. P ((codes "p1", encode_lower ps.0.0) ∷ cond b [] ((codes "p2", encode_lower ps.1.0) ∷ []))) [
      | true ↦ one (encode_lower ps.0.0)
      | false ↦ two (encode_lower ps.0.0) (encode_lower ps.1.0)
    ]

module _ (date operation user : List ℕ) (parents : Option (Node × Node)) where
  abbrev with_parents : List (List ℕ × List ℕ) → List (List ℕ × List ℕ)
  with_parents ps = (codes "date", date) ∷ (codes "operation", operation) ∷ ps ++ (codes "user", user) ∷ []

  pub keys_ascend : ascends None (operation_entries date operation parents user) ≡ true
  keys_ascend = by_parents (λ ps. ascends None (with_parents ps) ≡ true) parents refl (λ p. refl) (λ p q. refl)

  pub no_bad_key : has_bad_key (operation_entries date operation parents user) ≡ false
  no_bad_key = by_parents (λ ps. has_bad_key (with_parents ps) ≡ false) parents refl (λ p. refl) (λ p q. refl)

-- the entries of a note are those of its texts
pub noted : (note : Note) → entries (note_texts note) ≡ note_entries note
noted note =
    listed_so (note_entries note)
    (keys_ascend (date_text note.secs note.offset) note.operation.now note.user.now note.parents)

-- which can be written where no value holds a NUL
pub note_writable : (note : Note) → has_bad_value (note_entries note) ≡ false → is_writable (note_texts note) ≡ true
note_writable note values =
    writable_from (note_texts note)
    (ap has_bad_key (noted note)
    ∙ no_bad_key (date_text note.secs note.offset) note.operation.now note.user.now note.parents)
    (ap has_bad_value (noted note) ∙ values)

-- and are, one behind the other
pub note_laid : (note : Note) → with_pieces [] (note_entries note) ≡ written (note_texts note)
note_laid note =
    laid (note_entries note)
    (keys_ascend (date_text note.secs note.offset) note.operation.now note.user.now note.parents)

-- and name parents where there are some
names : (date operation user : List ℕ) (parents : Option (Node × Node))
    → list_any (λ e. is_parents_key e.0) (operation_entries date operation parents user) ≡ is_some parents
names date operation user None = refl
names date operation user (Some ps) = refl

pub note_names : (note : Note) → names_parents (note_texts note) ≡ is_some note.parents
note_names note =
    ap (list_any (λ e. is_parents_key e.0)) (noted note)
    ∙ names (date_text note.secs note.offset) note.operation.now note.user.now note.parents

-- ---- the bytes

pub pushed_more : (bytes : List ℕ) (es fs : List (List ℕ × List ℕ))
    → with_pieces bytes (es ++ fs) ≡ with_pieces (with_pieces bytes es) fs
pushed_more bytes [] fs = refl
pushed_more bytes (e ∷ es) fs = pushed_more (with_piece bytes e) es fs

-- a piece behind others
pub longer : (bytes : List ℕ) (e : List ℕ × List ℕ) → 0 < length bytes
    → length (with_piece bytes e) ≡ length bytes + length e.0 + length e.1 + 2
longer [] e some = absurd (omega (arith, some))
longer (x ∷ xs) e some =
    let there : eqb (length (x ∷ xs)) 0 ≡ false = grind arith in
    ap (λ none. length (cond none (piece e) ((x ∷ xs) ++ 0 ∷ piece e))) there
    ∙ omega (arith, length-append (x ∷ xs) (0 ∷ piece e), length-append e.0 (58 ∷ e.1))

pub sole_len : (ps : Node × Node) → ps.1 ≡ null_node → length ps.0.0 ≡ 20 → (front : ℕ) (bytes : List ℕ)
    → length (with_pieces (front ∷ bytes) (parents_entries (Some ps))) ≡ length (front ∷ bytes) + 44
sole_len ps absent twenty front bytes =
    rw (node_itself ps.1 null_node absent)
    (longer (front ∷ bytes) (codes "p1", encode_lower ps.0.0) (omega arith)
    ∙ omega (arith, twenty, length-encode_with lower_digits ps.0.0))

pub both_len : (ps : Node × Node) → ps.1 ≢ null_node → length ps.0.0 ≡ 20 → length ps.1.0 ≡ 20 → (front : ℕ)
    (bytes : List ℕ) → length (with_pieces (front ∷ bytes) (parents_entries (Some ps))) ≡ length (front ∷ bytes) + 88
both_len ps there twenty other front bytes =
    let one = longer (front ∷ bytes) (codes "p1", encode_lower ps.0.0) (omega arith) in
    rw (node_apart ps.1 null_node there)
    (longer (with_piece (front ∷ bytes) (codes "p1", encode_lower ps.0.0)) (codes "p2", encode_lower ps.1.0)
    (omega (arith, one))
    ∙ omega (
      arith,
      one,
      twenty,
      other,
      length-encode_with lower_digits ps.0.0,
      length-encode_with lower_digits ps.1.0,
    ))

pub noted_len : (date operation user : List ℕ) (parents : Option (Node × Node)) (n : ℕ)
    → ((front : ℕ) (bytes : List ℕ) → length (with_pieces (front ∷ bytes) (parents_entries parents))
    ≡ length (front ∷ bytes) + n)
    → length (written (from_entries {R = bytes_cmp} (reverse (operation_entries date operation parents user))))
    ≡ 22 + length date + n + (length operation + length user)
noted_len date operation user parents n more =
    let one = codes "date:" ++ date in
    let two = with_piece one (codes "operation", operation) in
    let three = with_pieces two (parents_entries parents) in
    let whole = with_pieces [] (operation_entries date operation parents user) in
    let is : whole ≡ with_piece three (codes "user", user) =
    pushed_more two (parents_entries parents) ((codes "user", user) ∷ []) in
    let first = longer one (codes "operation", operation) (omega arith) in
    let third = behind two (omega (arith, first)) in
    let last = longer three (codes "user", user) (omega (arith, first, third)) in
    ap length (sym (laid (operation_entries date operation parents user) (keys_ascend date operation user parents)))
    ∙ ap length is ∙ omega (arith, first, third, last)
  where
    behind : (bytes : List ℕ) → 0 < length bytes
        → length (with_pieces bytes (parents_entries parents)) ≡ length bytes + n
    behind [] some = absurd (omega (arith, some))
    behind (x ∷ xs) some = more x xs

-- ---- no date holds a NUL

digit_is_none : (d : ℕ) → list_any is_nul ((48 + d) ∷ []) ≡ false
digit_is_none d = ap (λ first. first || false) (ne_eqb (48 + d) 0 (λ e. omega (arith, e)))

decimal_holds_none : (n : ℕ) → n < 2 ^ 64 → list_any is_nul (decimal n) ≡ false
decimal_holds_none = decimal_by_steps (λ m ds. list_any is_nul ds ≡ false) (λ m small. digit_is_none m)
    (λ m ds small none. list_any-append is_nul ds ((48 + m % 10) ∷ [])
    ∙ ap (λ first. first || list_any is_nul ((48 + m % 10) ∷ [])) none ∙ digit_is_none (m % 10))

signed_holds_none : (z : ℤ) → mag z < 2 ^ 63 → list_any is_nul (signed_decimal z) ≡ false
signed_holds_none (pos n) small = decimal_holds_none n (omega arith)
signed_holds_none (negsuc n) small = decimal_holds_none _ (omega arith)

date_holds_none : (secs offset : ℤ) → FitsSigned w64 secs → FitsSigned w32 offset
    → list_any is_nul (date_text secs offset) ≡ false
date_holds_none secs offset fits narrow =
    list_any-append is_nul (signed_decimal secs) (32 ∷ signed_decimal offset)
    ∙ ap (λ first. first || list_any is_nul (signed_decimal offset)) (signed_holds_none secs fits.sfits)
    ∙ signed_holds_none offset (omega (arith, narrow.sfits))

-- the values hold one where one of the others does
pub values : (note : Note) → FitsSigned w64 note.secs → FitsSigned w32 note.offset
    → has_bad_value (note_entries note)
    ≡ (list_any is_nul note.operation.now
    || (has_bad_value (parents_entries note.parents) || (list_any is_nul note.user.now || false)))
values note fits narrow =
    (λ i. date_holds_none note.secs note.offset fits narrow i || (list_any is_nul note.operation.now
    || has_bad_value (parents_entries note.parents ++ (codes "user", note.user.now) ∷ [])))
    ∙ ap (λ rest. list_any is_nul note.operation.now || rest)
    (list_any-append (λ e. list_any is_nul e.1) (parents_entries note.parents) ((codes "user", note.user.now) ∷ []))

-- the last one, where none of the others does
pub user_alone : (operation parents user : Bool) → operation ≡ false → parents ≡ false
    → user ≡ (operation || (parents || (user || false)))
user_alone operation parents user o p = sym ((λ i. o i || (p i || (user || false))) ∙ or-false user)
