-- The lines of a description, as they are met byte by byte.
use Rattle.std.proofs.Common.{◌≡◌, ℕ, ◌+◌, ◌-◌, ◌<◌, ◌≤◌, ◌&&◌, not, Bool, true, false, List, [], ◌∷◌, ◌++◌, length}
use Rattle.std.proofs.Common.{map, take, drop, get_or, refl, sym, ap, ◌∙◌, arith, append_assoc, if◌then◌else◌}
use Rattle.std.specs.List.{join_with_byte, list_any, slice_split, onto_first, suffix_len}
use Rattle.std.specs.Cmp.Lexicographic.{same_text}
use Rattle.std.proofs.lemmas.Bool.{and_parts, or_parts, not-true, false≢true}
use Rattle.std.proofs.lemmas.List.{append-nil, length-append, length-map, take-append-le, drop_more, take_more}
use Rattle.std.proofs.lemmas.List.{get_or-drop, length-drop, reverse-append}
use Rattle.std.proofs.lemmas.List.Splits.{slice_split-cons_yes, slice_split-cons_no, length-slice_split}
use Rattle.hg_changeset.specs.WhiteSpace.{white_space, is_one_of, trimmed_end}
use Rattle.hg_changeset.specs.Description.{begins_with_cr_lf, with_lf_for_cr_lf, line_ends, lines, lines_text}

-- the text x put before the first line
abbrev pub onto_line : List ℕ → List (List ℕ) → List (List ℕ)
onto_line x [] = x ∷ []
onto_line x (line ∷ rest) = (x ++ line) ∷ rest

-- what is written of a description from the line on of which x was read and s is left
abbrev pub rest_text : List ℕ → List ℕ → List ℕ
rest_text x s = lines_text (onto_line x (lines s))

-- a line ends with b, at which s begins
abbrev pub ends_line : ℕ → List ℕ → Bool
ends_line b s = is_one_of line_ends b && not (begins_with_cr_lf s)

-- ---- white space at the end

pub suffix_len-push : (p : ℕ → Bool) (x : List ℕ) (b : ℕ) → p b ≡ true → suffix_len p (x ++ b ∷ []) ≡ 1 + suffix_len p x
suffix_len-push p x b h = rw (reverse-append x (b ∷ []), h) refl

trimmed_end-push : (x : List ℕ) (b : ℕ) → is_one_of white_space b ≡ true → trimmed_end white_space
    (x ++ b ∷ []) ≡ trimmed_end white_space x
trimmed_end-push x b h =
    let p = is_one_of white_space in
    let len : length (x ++ b ∷ []) - suffix_len p (x ++ b ∷ []) ≡ length x - suffix_len p x =
    rw (suffix_len-push p x b h) (omega (arith, length-append x (b ∷ []))) in
    ap (λ (n : ℕ). take n (x ++ b ∷ [])) len ∙ take-append-le (length x - suffix_len p x) x (b ∷ []) (omega arith)

-- ---- lines

there_are_lines : (s : List ℕ) → 0 < length (lines s)
there_are_lines s = omega (arith, length-slice_split (is_one_of line_ends) (with_lf_for_cr_lf s))

onto_nothing : (ls : List (List ℕ)) → 0 < length ls → onto_line [] ls ≡ ls
onto_nothing [] h = absurd (omega arith)
onto_nothing (line ∷ rest) h = refl

-- nothing was read yet
pub at_start : (s : List ℕ) → rest_text [] s ≡ lines_text (lines s)
at_start s = ap lines_text (onto_nothing (lines s) (there_are_lines s))

joined : (x : List ℕ) (ls : List (List ℕ)) → 0 < length ls → join_with_byte 10 (x ∷ ls) ≡ x ++ 10 ∷ join_with_byte 10 ls
joined x [] h = absurd (omega arith)
joined x (l ∷ ls) h = refl

lines_text-cons : (x : List ℕ) (ls : List (List ℕ)) → 0 < length ls
    → lines_text (x ∷ ls) ≡ trimmed_end white_space x ++ 10 ∷ lines_text ls
lines_text-cons x ls h = joined (trimmed_end white_space x) (map (trimmed_end white_space) ls)
    (omega (arith, length-map ls (trimmed_end white_space)))

kept : (b : ℕ) (s : List ℕ) → begins_with_cr_lf (b ∷ s) ≡ false → with_lf_for_cr_lf (b ∷ s) ≡ b ∷ with_lf_for_cr_lf s
kept b s h = ap (λ (c : Bool). if c then with_lf_for_cr_lf s else b ∷ with_lf_for_cr_lf s) h

left_out : (b : ℕ) (s : List ℕ) → begins_with_cr_lf (b ∷ s) ≡ true → with_lf_for_cr_lf (b ∷ s) ≡ with_lf_for_cr_lf s
left_out b s h = ap (λ (c : Bool). if c then with_lf_for_cr_lf s else b ∷ with_lf_for_cr_lf s) h

-- the byte b ends the line
pub line_done : (x : List ℕ) (b : ℕ) (s : List ℕ) → is_one_of line_ends b ≡ true → begins_with_cr_lf (b ∷ s) ≡ false
    → rest_text x (b ∷ s) ≡ trimmed_end white_space x ++ 10 ∷ rest_text [] s
line_done x b s is_end single =
    let cut : lines (b ∷ s) ≡ [] ∷ lines s = ap (slice_split (is_one_of line_ends)) (kept b s single)
    ∙ slice_split-cons_yes (is_one_of line_ends) b (with_lf_for_cr_lf s) is_end in
    ap (λ (ls : List (List ℕ)). lines_text (onto_line x ls)) cut
    ∙ lines_text-cons (x ++ []) (lines s) (there_are_lines s)
    ∙ ap (λ (l : List ℕ). trimmed_end white_space l ++ 10 ∷ lines_text (lines s)) (append-nil x)
    ∙ ap (λ (t : List ℕ). trimmed_end white_space x ++ 10 ∷ t) (sym (at_start s))

onto_line-first : (x : List ℕ) (b : ℕ) (ls : List (List ℕ)) → onto_line x (onto_first b ls) ≡ onto_line (x ++ b ∷ []) ls
onto_line-first x b [] = refl
onto_line-first x b (line ∷ rest) = ap (λ (l : List ℕ). l ∷ rest) (sym (append_assoc x (b ∷ []) line))

-- the byte b stands in the line
line_goes_on : (x : List ℕ) (b : ℕ) (s : List ℕ) → is_one_of line_ends b ≡ false → begins_with_cr_lf (b ∷ s) ≡ false
    → rest_text x (b ∷ s) ≡ rest_text (x ++ b ∷ []) s
line_goes_on x b s plain single =
    let longer : lines (b ∷ s) ≡ onto_first b (lines s) = ap (slice_split (is_one_of line_ends)) (kept b s single)
    ∙ slice_split-cons_no (is_one_of line_ends) b (with_lf_for_cr_lf s) plain in
    ap (λ (ls : List (List ℕ)). lines_text (onto_line x ls)) longer
    ∙ ap lines_text (onto_line-first x b (lines s))

-- the CR of a CR LF: white space at the end of its line
before_lf : (x : List ℕ) (b : ℕ) (s : List ℕ)
    → begins_with_cr_lf (b ∷ s) ≡ true → rest_text x (b ∷ s) ≡ rest_text (x ++ b ∷ []) s
before_lf x b [] h = cc (same_text (13 ∷ 10 ∷ []) (take 2 (b ∷ [])) (sym h))
before_lf x b (c ∷ s) h =
    let same : 13 ∷ 10 ∷ [] ≡ b ∷ c ∷ [] = same_text (13 ∷ 10 ∷ []) (take 2 (b ∷ c ∷ s)) (sym h) in
    let is_cr : b ≡ 13 = cc in
    let is_lf : c ≡ 10 = cc in
    let white : is_one_of white_space b ≡ true = rw is_cr refl in
    let ends : is_one_of line_ends c ≡ true = rw is_lf refl in
    let single : begins_with_cr_lf (c ∷ s) ≡ false = rw is_lf refl in
    ap (λ (t : List ℕ). lines_text (onto_line x (slice_split (is_one_of line_ends) t))) (left_out b (c ∷ s) h)
    ∙ line_done x c s ends single
    ∙ ap (λ (l : List ℕ). l ++ 10 ∷ rest_text [] s) (sym (trimmed_end-push x b white))
    ∙ sym (line_done (x ++ b ∷ []) c s ends single)

left_false : (a : Bool) → (a && true) ≡ false → a ≡ false
left_false true h = h
left_false false h = refl

-- the byte b ends no line
pub no_end : (x : List ℕ) (b : ℕ) (s : List ℕ) (c : Bool)
    → begins_with_cr_lf (b ∷ s) ≡ c → (is_one_of line_ends b && not c) ≡ false → rest_text x
    (b ∷ s) ≡ rest_text (x ++ b ∷ []) s
no_end x b s true e h = before_lf x b s e
no_end x b s false e h = line_goes_on x b s (left_false (is_one_of line_ends b) h) e

-- ---- the steps of the loop: the line from `start` on was read up to i

-- the line is longer by the byte at i
pub longer_line : (s : List ℕ) (start i : ℕ) → start ≤ i → i < length s
    → take (i + 1 - start) (drop start s) ≡ take (i - start) (drop start s) ++ get_or s i 0 ∷ []
longer_line s start i h within =
    let more : i + 1 - start ≡ (i - start) + 1 = omega arith in
    let there : start + (i - start) ≡ i = omega arith in
    let at : get_or (drop start s) (i - start) 0 ≡ get_or s i 0 = get_or-drop start s (i - start) 0
    ∙ ap (λ (k : ℕ). get_or s k 0) there in
    ap (λ (n : ℕ). take n (drop start s)) more
    ∙ take_more (drop start s) (i - start) 0 (omega (arith, length-drop start s))
    ∙ ap (λ (a : ℕ). take (i - start) (drop start s) ++ a ∷ []) at

module _ (s text all : List ℕ) (start i : ℕ)
    (rest : text ++ rest_text (take (i - start) (drop start s)) (drop i s) ≡ all) where
  -- a line ends at i
  pub cut_here : (j : ℕ) → i < length s
      → j ≡ i + 1 → ends_line (get_or s i 0) (drop i s) ≡ true
      → (text ++ trimmed_end white_space (take (i - start) (drop start s))) ++ 10 ∷ [] ++
      rest_text (take (i + 1 - j) (drop j s)) (drop (i + 1) s) ≡ all
  cut_here j within e ends =
      let b = get_or s i 0 in
      let t = drop (i + 1) s in
      let x = take (i - start) (drop start s) in
      let y = take (i + 1 - j) (drop j s) in
      let front : drop i s ≡ b ∷ t = drop_more s i 0 within in
      let parts = and_parts (is_one_of line_ends b) (not (begins_with_cr_lf (drop i s))) ends in
      let single : begins_with_cr_lf (b ∷ t) ≡ false = ap begins_with_cr_lf (sym front)
      ∙ not-true (begins_with_cr_lf (drop i s)) parts.1 in
      let zero : i + 1 - j ≡ 0 = omega arith in
      let none : y ≡ [] = ap (λ (n : ℕ). take n (drop j s)) zero in
      append_assoc (text ++ trimmed_end white_space x) (10 ∷ []) (rest_text y t)
      ∙ append_assoc text (trimmed_end white_space x) (10 ∷ rest_text y t)
      ∙ ap (λ (l : List ℕ). text ++ (trimmed_end white_space x ++ 10 ∷ rest_text l t)) none
      ∙ ap (λ (l : List ℕ). text ++ l)
      (sym (line_done x b t parts.0 single) ∙ ap (λ (l : List ℕ). rest_text x l) (sym front))
      ∙ rest

  -- no line ends at i
  pub read_on : start ≤ i → i < length s
      → ends_line (get_or s i 0) (drop i s) ≡ false → text ++ rest_text (take (i + 1 - start) (drop start s))
      (drop (i + 1) s) ≡ all
  read_on h within goes_on =
      let b = get_or s i 0 in
      let t = drop (i + 1) s in
      let x = take (i - start) (drop start s) in
      let front : drop i s ≡ b ∷ t = drop_more s i 0 within in
      ap (λ (l : List ℕ). text ++ rest_text l t) (longer_line s start i h within)
      ∙ ap (λ (l : List ℕ). text ++ l)
      (sym (no_end x b t (begins_with_cr_lf (b ∷ t)) refl
      (ap (λ (l : List ℕ). is_one_of line_ends b && not (begins_with_cr_lf l)) (sym front) ∙ goes_on))
      ∙ ap (λ (l : List ℕ). rest_text x l) (sym front))
      ∙ rest

-- ---- one line

no_cr_lf : (b : ℕ) (s : List ℕ) → is_one_of line_ends b ≡ false → begins_with_cr_lf (b ∷ s) ≡ false
no_cr_lf b s plain = elim (begins_with_cr_lf (b ∷ s)) as (λ c. begins_with_cr_lf (b ∷ s) ≡ c → c ≡ false) [
  | true ↦ λ h. absurd (begins s h)
  | false ↦ λ h. refl
] refl
  where
    begins : (t : List ℕ) → begins_with_cr_lf (b ∷ t) ≡ true → ⊥
    begins [] h = cc (same_text (13 ∷ 10 ∷ []) (take 2 (b ∷ [])) (sym h))
    begins (c ∷ t) h =
        let same : 13 ∷ 10 ∷ [] ≡ b ∷ c ∷ [] = same_text (13 ∷ 10 ∷ []) (take 2 (b ∷ c ∷ t)) (sym h) in
        let is_cr : b ≡ 13 = cc in
        false≢true (sym plain ∙ ap (is_one_of line_ends) is_cr)

nothing_left_out : (s : List ℕ) → list_any (is_one_of line_ends) s ≡ false → with_lf_for_cr_lf s ≡ s
nothing_left_out [] h = refl
nothing_left_out (b ∷ s) h =
    let p = or_parts _ _ h in kept b s (no_cr_lf b s p.0) ∙ ap (λ (t : List ℕ). b ∷ t) (nothing_left_out s p.1)

undivided : (s : List ℕ) → list_any (is_one_of line_ends) s ≡ false → slice_split (is_one_of line_ends) s ≡ s ∷ []
undivided [] h = refl
undivided (b ∷ s) h =
    let p = or_parts _ _ h in
    slice_split-cons_no (is_one_of line_ends) b s p.0 ∙ ap (onto_first b) (undivided s p.1)

-- what has no LF and no CR is one line
pub one_line : (s : List ℕ) → list_any (is_one_of line_ends) s ≡ false → lines s ≡ s ∷ []
one_line s h = ap (slice_split (is_one_of line_ends)) (nothing_left_out s h) ∙ undivided s h
