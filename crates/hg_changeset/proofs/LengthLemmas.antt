-- How many bytes texts have, told before they are written.
use Rattle.std.proofs.Common.{◌≡◌, ℕ, zero, suc, ◌+◌, ◌-◌, ◌^◌, ◌<◌, ◌≤◌, ◌&&◌, min, not, Bool, true, false, cond}
use Rattle.std.proofs.Common.{List, [], ◌∷◌, ◌++◌}
use Rattle.std.proofs.Common.{length, map, take, drop, get_or, None, Some, inl, inr, true≢false, refl, sym, ap, ◌∙◌}
use Rattle.std.proofs.Common.{arith, append_assoc, length-append}
use Rattle.std.specs.Prelude.{nat_eq, nat_lt, ◌==◌, ◌||◌}
use Rattle.std.specs.Borrow.{Bor}
use Rattle.std.specs.FinMap.{put, slice_cmp-IsAntisymmetric, nat_cmp-IsAntisymmetric}
use Rattle.std.specs.FinMap.Entries.{by_order}
use Rattle.std.specs.Ordering.{nat_cmp, ordering_reverse}
use Rattle.std.specs.Cmp.Lexicographic.{slice_cmp, pointwise, same_text, bytes_decides, nat_list_cmp_total}
use Rattle.std.specs.declared.cmp.Ordering.{Ordering}
use Rattle.std.specs.declared.cmp.Ordering.TheVariants.{Less, Equal, Greater}
use Rattle.std.specs.List.{list_any, prefix_len, suffix_len, AllByRecursion}
use Rattle.std.specs.List.Sorted.{IsStrictlySortedBy}
use Rattle.std.proofs.lemmas.Bool.{or_parts, cases_lt, eqb-true, le-ltb, lt-ltb}
use Rattle.std.proofs.lemmas.List.{append-nil, length-drop, length-take-le, length-replicate, reverse-append}
use Rattle.std.proofs.lemmas.List.{drop-append-le, drop_all, drop_more, take_all}
use Rattle.std.proofs.lemmas.List.Folds.{list_any-append}
use Rattle.std.proofs.lemmas.List.Sums.{prefix_len-le-length}
use Rattle.hg_changeset.specs.declared.description.JoinedLen.{JoinedLen}
use Rattle.hg_changeset.specs.Bytes.{line_feed, digit_zero}
use Rattle.hg_changeset.specs.WhiteSpace.{white_space, is_one_of, trimmed_front, trimmed_end, trimmed}
use Rattle.hg_changeset.specs.Extras.{item, extras_text, AscendByKey}
use Rattle.hg_changeset.specs.EntryValue.{EntryValue}
use Rattle.hg_changeset.specs.EntryText.{no_manifest, trimmed_user, date_text, entry_text}
use Rattle.hg_changeset.specs.Description.{begins_with_cr_lf, line_ends, lines, lines_text, description_text}
use Rattle.hg_changeset.specs.Changeset.{text_limit}
use Rattle.hg_changeset.specs.Lengths.{len_without, Measures, text_len}
use Rattle.hg_changeset.proofs.ExtrasLemmas.{led, extras_are_led}
use Rattle.hg_changeset.proofs.DescriptionLemmas.{rest_text, ends_line, at_start, line_done, no_end, suffix_len-push}
use Rattle.hg_changeset.proofs.DescriptionLemmas.{cut_here, read_on, longer_line}

-- ---- extras

led_len : (before : ℕ) (xs : List (List ℕ × List ℕ)) → len_without None xs ≡ length (led before xs)
led_len before [] = refl
led_len before (x ∷ xs) = omega (arith, length-append (item x) (led 0 xs), led_len 0 xs)

-- none is left out
pub all_extras : (xs : List (List ℕ × List ℕ)) → len_without None xs ≡ length (extras_text xs)
all_extras xs = led_len 32 xs ∙ ap length (extras_are_led xs)

abbrev key_cmp : List ℕ → List ℕ → Ordering
key_cmp = slice_cmp nat_cmp

other_key : (x y : List ℕ) → (x ≡ y → ⊥) → pointwise nat_eq x y ≡ false
other_key x y apart = by (pointwise nat_eq x y) refl
  where
    by : (b : Bool) → pointwise nat_eq x y ≡ b → b ≡ false
    by true h = absurd (apart (same_text x y (sym h)))
    by false h = refl

not_before_itself : (x y : List ℕ) → key_cmp x y ≡ Less → x ≡ y → ⊥
not_before_itself x y l e =
    let itself : key_cmp x x ≡ Less = ap (key_cmp x) e ∙ l in
    let other : key_cmp x x ≡ ordering_reverse Less = nat_list_cmp_total.antisymm x x ∙ ap ordering_reverse itself in
    cc (sym itself ∙ other)

not_both_ways : (x y : List ℕ) → key_cmp x y ≡ Less → key_cmp y x ≡ Less → ⊥
not_both_ways x y l m =
    let other : key_cmp x y ≡ ordering_reverse Less = nat_list_cmp_total.antisymm x y ∙ ap ordering_reverse m in
    cc (sym l ∙ other)

not_behind_itself : (x y : List ℕ) → key_cmp x y ≡ Greater → x ≡ y → ⊥
not_behind_itself x y g e =
    not_before_itself y x (nat_list_cmp_total.antisymm y x ∙ ap ordering_reverse g) (sym e)

-- no extra behind the key x is the one that is left out
none_behind : (left_out : Bor (List ℕ)) (x : List ℕ) (es : List (List ℕ × List ℕ))
    → ((y : List ℕ) → key_cmp x y ≡ Less → left_out.now ≡ y → ⊥)
    → AllByRecursion (λ y. key_cmp x y ≡ Less) (map (λ e. e.0) es)
    → len_without (Some left_out) es ≡ len_without None es
none_behind left_out x [] apart h = refl
none_behind left_out x (e ∷ es) apart h =
    rw (other_key left_out.now e.0 (apart e.0 h.0)) (ap (λ n. 1 + length (item e) + n)
    (none_behind left_out x es apart h.1))

-- the others take no more than all
pub others_within : (left_out : Bor (List ℕ)) (es : List (List ℕ × List ℕ))
    → len_without (Some left_out) es ≤ len_without None es
others_within left_out [] = omega arith
others_within left_out (e ∷ es) =
    elim (pointwise nat_eq left_out.now e.0) as (λ b. cond b 0 (1 + length (item e))
    + len_without (Some left_out) es ≤ 1 + length (item e) + len_without None es) [
      | true ↦ omega (arith, others_within left_out es)
      | false ↦ omega (arith, others_within left_out es)
    ]

module _ (key : Bor (List ℕ)) (value : List ℕ) where
  -- the others, and one put among them
  pub one_put : (es : List (List ℕ × List ℕ)) → AscendByKey es
      → len_without (Some key) es + (1 + length (item (key.now, value)))
      ≡ len_without None (put key_cmp key.now value es)
  unfolding IsStrictlySortedBy
  one_put [] h = omega arith
  one_put (e ∷ es) h =
      elim (key_cmp key.now e.0) as (λ r. key_cmp key.now e.0 ≡ r
      → len_without (Some key) (e ∷ es) + (1 + length (item (key.now, value))) ≡ len_without None
      (by_order r ((key.now, value) ∷ e ∷ es) ((e.0, value) ∷ es) (e ∷ put key_cmp key.now value es))) [
        | Less ↦ λ l. rw (other_key key.now e.0 (not_before_itself key.now e.0 l))
            (omega (
              arith,
              none_behind key e.0 es
                  (λ y m same. not_both_ways key.now e.0 l (ap (key_cmp e.0) same ∙ m)) h.0,
            ))
        | Equal ↦ λ q.
            let same : key.now ≡ e.0 = slice_cmp-IsAntisymmetric nat_cmp-IsAntisymmetric key.now e.0 q in
            rw ((bytes_decides key.now e.0).1 same)
            (omega (
              arith,
              ap (λ (k : List ℕ). length (item (k, value))) same,
              none_behind key e.0 es
                  (λ y m is. not_before_itself e.0 y m (sym same ∙ is)) h.0,
            ))
        | Greater ↦ λ g. rw (other_key key.now e.0 (not_behind_itself key.now e.0 g))
            (omega (arith, one_put es h.1))
      ] refl

-- ---- lines, as they are joined

abbrev lf : ℕ → Bool
lf = is_one_of (line_feed ∷ [])

abbrev front_len : List ℕ → ℕ
front_len text = length (trimmed_front (line_feed ∷ []) text)

abbrev ends_len : List ℕ → ℕ
ends_len text = length (trimmed (line_feed ∷ []) text)

front_is : (text : List ℕ) → front_len text ≡ length text - prefix_len lf text
front_is text = length-drop (prefix_len lf text) text

-- the text without LF at its front, of which so many bytes at the end are LF
ends_are : (rest : List ℕ) (n : ℕ) → suffix_len lf rest ≡ n
    → length (trimmed_end (line_feed ∷ []) rest) ≡ length rest - n
ends_are rest n h = length-take-le (length rest - suffix_len lf rest) rest (omega arith) ∙ ap (λ m. length rest - m) h

prefix_before : (text line : List ℕ) → 0 < length line → list_any lf line ≡ false
    → prefix_len lf (text ++ line) ≡ prefix_len lf text
prefix_before [] [] some plain = absurd (omega arith)
prefix_before [] (b ∷ line) some plain = rw (or_parts (lf b) (list_any lf line) plain).0 refl
prefix_before (c ∷ text) line some plain = ap (λ n. cond (lf c) (1 + n) 0) (prefix_before text line some plain)

no_suffix : (text line : List ℕ) → 0 < length line → list_any lf line ≡ false → suffix_len lf (text ++ line) ≡ 0
no_suffix text [] some plain = absurd (omega arith)
no_suffix text (b ∷ []) some plain = rw (reverse-append text (b ∷ []), (or_parts (lf b) false plain).0) refl
no_suffix text (b ∷ c ∷ line) some plain =
    ap (suffix_len lf) (sym (append_assoc text (b ∷ []) (c ∷ line)))
    ∙ no_suffix (text ++ b ∷ []) (c ∷ line) (omega arith) (or_parts (lf b) (list_any lf (c ∷ line)) plain).1

-- a line that isn't empty behind a text
module _ (text line : List ℕ) (some : 0 < length line) (plain : list_any lf line ≡ false) where
  pub line_front : front_len (text ++ line) ≡ front_len text + length line
  line_front = omega (
    arith,
    front_is (text ++ line),
    front_is text,
    prefix_before text line some plain,
    prefix_len-le-length lf text,
    length-append text line,
  )

  pub line_ends_len : ends_len (text ++ line) ≡ front_len text + length line
  line_ends_len =
      let n = prefix_len lf text in
      let rest : trimmed_front (line_feed ∷ []) (text ++ line) ≡ drop n text ++ line =
      ap (λ m. drop m (text ++ line)) (prefix_before text line some plain)
      ∙ drop-append-le n text line (prefix_len-le-length lf text) in
      ap (λ s. length (trimmed_end (line_feed ∷ []) s)) rest
      ∙ ends_are (drop n text ++ line) 0 (no_suffix (drop n text) line some plain)
      ∙ omega (arith, length-append (drop n text) line)

all_prefix : (text : List ℕ) → prefix_len lf text ≡ length text
    → prefix_len lf (text ++ line_feed ∷ []) ≡ length text + 1
all_prefix [] h = refl
all_prefix (b ∷ text) h =
    elim (lf b) as (λ c. lf b ≡ c → cond c (1 + prefix_len lf (text ++ line_feed ∷ [])) 0 ≡ length (b ∷ text) + 1) [
      | true ↦ λ e.
          let more : 1 + prefix_len lf text ≡ length (b ∷ text) =
          ap (λ c. cond c (1 + prefix_len lf text) 0) (sym e) ∙ h in
          omega (arith, all_prefix text (omega (arith, more)))
      | false ↦ λ e.
          let none : 0 ≡ length (b ∷ text) = ap (λ c. cond c (1 + prefix_len lf text) 0) (sym e) ∙ h in
          absurd (omega (arith, none))
    ] refl

part_prefix : (text : List ℕ) → prefix_len lf text < length text
    → prefix_len lf (text ++ line_feed ∷ []) ≡ prefix_len lf text
part_prefix [] h = absurd (omega arith)
part_prefix (b ∷ text) h =
    elim (lf b) as (λ c. lf b ≡ c → cond c (1 + prefix_len lf (text ++ line_feed ∷ [])) 0 ≡ cond c
    (1 + prefix_len lf text) 0) [
      | true ↦ λ e.
          let more : prefix_len lf (b ∷ text) ≡ 1 + prefix_len lf text =
          ap (λ c. cond c (1 + prefix_len lf text) 0) e in
          ap (λ n. 1 + n) (part_prefix text (omega (arith, more, h)))
      | false ↦ λ e. refl
    ] refl

module _ (text : List ℕ) where
  -- a LF behind what is nothing but LF
  pub feed_none : front_len text ≡ 0 → front_len (text ++ line_feed ∷ []) ≡ 0
  feed_none h = omega (
    arith,
    front_is text,
    front_is (text ++ line_feed ∷ []),
    prefix_len-le-length lf text,
    length-append text (line_feed ∷ []),
    all_prefix text (omega (arith, h, front_is text, prefix_len-le-length lf text)),
  )

  pub feed_front : 0 < front_len text → front_len (text ++ line_feed ∷ []) ≡ front_len text + 1
  feed_front h = omega (
    arith,
    front_is text,
    front_is (text ++ line_feed ∷ []),
    length-append text (line_feed ∷ []),
    part_prefix text (omega (arith, h, front_is text)),
  )

  ends_within : ends_len text ≤ front_len text
  ends_within = omega (
    arith,
    ends_are (trimmed_front (line_feed ∷ []) text) (suffix_len lf (trimmed_front (line_feed ∷ []) text)) refl,
  )

  -- behind any text
  pub feed_ends : ends_len (text ++ line_feed ∷ []) ≡ ends_len text
  feed_ends = elim (cases_lt 0 (front_len text)) [
    | inl some ↦
        let n = prefix_len lf text in
        let rest : trimmed_front (line_feed ∷ []) (text ++ line_feed ∷ []) ≡ drop n text ++ line_feed ∷ [] =
        ap (λ m. drop m (text ++ line_feed ∷ [])) (part_prefix text (omega (arith, some, front_is text)))
        ∙ drop-append-le n text (line_feed ∷ []) (prefix_len-le-length lf text) in
        let one_more = suffix_len-push lf (drop n text) line_feed refl in
        omega (
          arith,
          ap (λ s. length (trimmed_end (line_feed ∷ []) s)) rest,
          ends_are (drop n text ++ line_feed ∷ []) _ one_more,
          ends_are (drop n text) _ refl,
          length-append (drop n text) (line_feed ∷ []),
        )
    | inr none ↦ omega (arith, none, ends_within, feed_none (omega (arith, none)), after_none)
  ]
    where
      after_none : ends_len (text ++ line_feed ∷ []) ≤ front_len (text ++ line_feed ∷ [])
      after_none = omega (
        arith,
        ends_are (trimmed_front (line_feed ∷ []) (text ++ line_feed ∷ [])) _ refl,
      )

-- ---- the steps of the loop over a description

plain_front : (n : ℕ) (line : List ℕ) → list_any lf line ≡ false → list_any lf (take n line) ≡ false
plain_front zero line plain = refl
plain_front (suc n) [] plain = refl
plain_front (suc n) (b ∷ line) plain =
    let parts = or_parts (lf b) (list_any lf line) plain in rw parts.0 (plain_front n line parts.1)

-- a line without the white space at its end has no LF where it had none
pub plain_trimmed : (line : List ℕ) → list_any lf line ≡ false → list_any lf (trimmed_end white_space line) ≡ false
plain_trimmed line = plain_front (length line - suffix_len (is_one_of white_space) line) line

-- the two numbers tell of what was joined when the line from `start` on is read up to i
pub record IsCounted (s : List ℕ) (start i : ℕ) (joined : JoinedLen) : Type 0 where
  pub text : List ℕ
  pub rest : text ++ rest_text (take (i - start) (drop start s)) (drop i s) ≡ lines_text (lines s)
  pub plain : list_any lf (take (i - start) (drop start s)) ≡ false
  pub measured : Measures joined text

left_true : (a : Bool) → (a || false) ≡ true → a ≡ true
left_true true h = h
left_true false h = h

no_line_feed : (b : ℕ) (s : List ℕ) → ends_line b (b ∷ s) ≡ false → lf b ≡ false
no_line_feed b s h =
    elim (lf b) as (λ c. lf b ≡ c → c ≡ false) [
      | true ↦ λ e.
          let is : line_feed ≡ b = eqb-true line_feed b (left_true (line_feed == b) e) in
          absurd (true≢false (ap (λ x. ends_line x (x ∷ s)) is ∙ h))
      | false ↦ λ e. refl
    ] refl

module _ (s : List ℕ) (start i : ℕ) (joined : JoinedLen) (h : IsCounted s start i joined) where
  abbrev line_so_far : List ℕ
  line_so_far = take (i - start) (drop start s)

  -- a line ends at i
  pub counted_line : (j : ℕ) (more : JoinedLen) → i < length s → j ≡ i + 1
      → ends_line (get_or s i 0) (drop i s) ≡ true
      → Measures more ((h.text ++ trimmed_end white_space line_so_far) ++ line_feed ∷ []) → IsCounted s j (i + 1) more
  counted_line j more within e ends measured =
      let zero : i + 1 - j ≡ 0 = omega (arith, e) in
      record {
        text = (h.text ++ trimmed_end white_space line_so_far) ++ line_feed ∷ [];
        rest = cut_here s h.text (lines_text (lines s)) start i h.rest j within e ends;
        plain = ap (λ (n : ℕ). list_any lf (take n (drop j s))) zero;
        measured = measured;
      }

  -- no line ends at i
  pub counted_on : start ≤ i → i < length s → ends_line (get_or s i 0) (drop i s) ≡ false
      → IsCounted s start (i + 1) joined
  counted_on le within goes_on =
      let b = get_or s i 0 in
      let front : drop i s ≡ b ∷ drop (i + 1) s = drop_more s i 0 within in
      let other : lf b ≡ false = no_line_feed b (drop (i + 1) s) (ap (ends_line b) (sym front) ∙ goes_on) in
      record {
        text = h.text;
        rest = read_on s h.text (lines_text (lines s)) start i h.rest le within goes_on;
        plain = ap (list_any lf) (longer_line s start i le within)
            ∙ list_any-append lf line_so_far (b ∷ [])
            ∙ rw (h.plain, other) refl;
        measured = h.measured;
      }

  module _ (past : length s ≤ i) where
    last_line : line_so_far ≡ drop start s
    last_line = take_all (i - start) (drop start s) (omega (arith, length-drop start s))

    -- the last line has no LF either
    pub plain_last : list_any lf (drop start s) ≡ false
    plain_last = ap (list_any lf) (sym last_line) ∙ h.plain

    -- nothing is left
    pub all_joined : h.text ++ trimmed_end white_space (drop start s) ≡ lines_text (lines s)
    all_joined =
        ap (λ x. h.text ++ trimmed_end white_space x) (sym (append-nil (drop start s)))
        ∙ (λ k. h.text ++ rest_text (sym last_line k) (sym (drop_all i s past) k))
        ∙ h.rest

-- ---- lengths that bound them

pub trimmed_within : (cut s : List ℕ) → length (trimmed cut s) ≤ length s
trimmed_within cut s =
    let rest = trimmed_front cut s in
    omega (
      arith,
      length-drop (prefix_len (is_one_of cut) s) s,
      length-take-le (length rest - suffix_len (is_one_of cut) rest) rest (omega arith),
    )

end_within : (cut s : List ℕ) → length (trimmed_end cut s) ≤ length s
end_within cut s = omega (arith, length-take-le (length s - suffix_len (is_one_of cut) s) s (omega arith))

-- the byte b ends its line, and may not be the CR of a CR LF
line_within : (x : List ℕ) (b : ℕ) (s : List ℕ) → (c d : Bool) → is_one_of line_ends b ≡ c
    → begins_with_cr_lf (b ∷ s) ≡ d → (c && not d) ≡ true → length (rest_text [] s) ≤ length s
    → length (rest_text x (b ∷ s)) ≤ length x + length (b ∷ s)
line_within x b s true false e f g within = omega (
  arith,
  ap length (line_done x b s e f),
  length-append (trimmed_end white_space x) (10 ∷ rest_text [] s),
  end_within white_space x,
  within,
)
line_within x b s true true e f g within = absurd (true≢false (sym g))
line_within x b s false d e f g within = absurd (true≢false (sym g))

rest_within : (x s : List ℕ) → length (rest_text x s) ≤ length x + length s
rest_within x [] = omega (arith, end_within white_space (x ++ []), length-append x [])
rest_within x (b ∷ s) =
    elim (ends_line b (b ∷ s)) as (λ c. ends_line b (b ∷ s) ≡ c
    → length (rest_text x (b ∷ s)) ≤ length x + length (b ∷ s)) [
      | true ↦ λ h. line_within x b s (is_one_of line_ends b) (begins_with_cr_lf (b ∷ s)) refl refl h
          (omega (arith, rest_within [] s))
      | false ↦ λ h. omega (
        arith,
        ap length (no_end x b s (begins_with_cr_lf (b ∷ s)) refl h),
        length-append x (b ∷ []),
        rest_within (x ++ b ∷ []) s,
      )
    ] refl

pub description_within : (s : List ℕ) → length (description_text s) ≤ length s
description_within s = omega (
  arith,
  trimmed_within (line_feed ∷ []) (lines_text (lines s)),
  ap length (at_start s),
  rest_within [] s,
)

-- ---- entries

-- two numbers are alike above the limit where they are as far as a machine counts
same_test : (m n : ℕ) → min m (2 ^ 64 - 1) ≡ min n (2 ^ 64 - 1) → nat_lt text_limit m ≡ nat_lt text_limit n
same_test m n e = elim (cases_lt text_limit m) [
  | inl above ↦ lt-ltb text_limit m above ∙ sym (lt-ltb text_limit n (omega (arith, e, above)))
  | inr within ↦ le-ltb text_limit m within ∙ sym (le-ltb text_limit n (omega (arith, e, within)))
]

pub counted_alike : (e : EntryValue) (len n extras : ℕ) → len ≡ min (text_len e n) (2 ^ 64 - 1)
    → n ≡ min extras (2 ^ 64 - 1) → nat_lt text_limit len ≡ nat_lt text_limit (text_len e extras)
counted_alike e len n extras h k = same_test len (text_len e extras) (omega (arith, h, k))

pub text_is : (e : EntryValue) → text_len e (length (extras_text e.extra)) ≡ length (entry_text e)
unfolding entry_text
text_is e =
    let user = trimmed_user e.user in
    let date = date_text e.secs e.offset in
    let extras = extras_text e.extra in
    let desc = description_text e.desc in
    omega (
      arith,
      length-append no_manifest (10 ∷ user ++ (10 ∷ (date ++ extras) ++ (10 ∷ 10 ∷ desc))),
      length-append user (10 ∷ (date ++ extras) ++ (10 ∷ 10 ∷ desc)),
      length-append (date ++ extras) (10 ∷ 10 ∷ desc),
      length-append date extras,
      length-replicate 40 digit_zero,
    )
