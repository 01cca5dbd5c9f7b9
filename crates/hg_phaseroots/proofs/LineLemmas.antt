-- The first line of a text.
use Rattle.std.proofs.Common.{◌≡◌, ℕ, suc, ◌+◌, ◌-◌, ◌<◌, ◌≤◌, Bool, true, false, List, [], ◌∷◌, ◌++◌, length, take}
use Rattle.std.proofs.Common.{drop, Some, None, refl, ap, subst, arith}
use Rattle.std.specs.Prelude.{position}
use Rattle.std.specs.List.{position_or_len, All}
use Rattle.std.proofs.lemmas.List.Elements.{All-head, All-tail}
use Rattle.hg_changeset.proofs.ListLemmas.{position-found, position-none, take-drop_rest}
use Rattle.hg_phaseroots.specs.Lines.{is_line_feed, before_lines, lines_of}

-- the line before a line feed, by the first byte
before_by : (b : ℕ) (text : List ℕ) (i : ℕ)
    → ((j : ℕ) → position_or_len is_line_feed text ≡ j → j < length text
    → lines_of text ≡ take j text ∷ lines_of (drop (j + 1) text))
    → position_or_len is_line_feed (b ∷ text) ≡ i → i < length (b ∷ text) → (v : Bool)
    → is_line_feed b ≡ v → lines_of (b ∷ text) ≡ take i (b ∷ text) ∷ lines_of (drop (i + 1) (b ∷ text))
before_by b text i rest at l true e = let z : 0 ≡ i = rw e at at in rw (e, ← z) refl
before_by b text i rest at l false e =
    let s : 1 + position_or_len is_line_feed text ≡ i = rw e at at in
    let j : suc (i - 1) ≡ i = omega arith in
    let q : position_or_len is_line_feed text ≡ i - 1 = omega arith in
    rw e (subst (λ m. before_lines b (lines_of text) ≡ take m (b ∷ text) ∷ lines_of (drop (m + 1) (b ∷ text))) j
    (more (i - 1) q (omega arith)))
  where
    more : (j : ℕ) → position_or_len is_line_feed text ≡ j → j < length text
        → before_lines b (lines_of text) ≡ take (suc j) (b ∷ text) ∷ lines_of (drop (suc j + 1) (b ∷ text))
    more j e lt =
        let k : suc j + 1 ≡ suc (j + 1) = omega arith in
        rw (rest j e lt, k) refl

line_before : (text : List ℕ) (i : ℕ) → position_or_len is_line_feed text ≡ i → i < length text
    → lines_of text ≡ take i text ∷ lines_of (drop (i + 1) text)
line_before [] i at l = absurd (omega arith)
line_before (b ∷ text) i at l = before_by b text i (line_before text) at l (is_line_feed b) refl

-- the last line, where no line feed follows, by the first byte
alone_by : (b : ℕ) (text : List ℕ)
    → (0 < length text → length text ≤ position_or_len is_line_feed text → lines_of text ≡ text ∷ [])
    → length (b ∷ text) ≤ position_or_len is_line_feed (b ∷ text) → (v : Bool)
    → is_line_feed b ≡ v → lines_of (b ∷ text) ≡ (b ∷ text) ∷ []
alone_by b text rest none true e = let z : suc (length text) ≤ 0 = rw e at none in absurd (omega arith)
alone_by b [] rest none false e = rw e refl
alone_by b (c ∷ text) rest none false e =
    let s : suc (length (c ∷ text)) ≤ 1 + position_or_len is_line_feed (c ∷ text) = rw e at none in
    rw e (ap (before_lines b) (rest (omega arith) (omega arith)))

line_alone : (text : List ℕ) → 0 < length text → length text ≤ position_or_len is_line_feed text
    → lines_of text ≡ text ∷ []
line_alone [] l none = absurd (omega arith)
line_alone (b ∷ text) l none = alone_by b text (line_alone text) none (is_line_feed b) refl

pub line_found : (text : List ℕ) (i : ℕ) → position is_line_feed text ≡ Some i
    → lines_of text ≡ take i text ∷ lines_of (take (length text - (i + 1)) (drop (i + 1) text))
line_found text i h =
    let at = position-found is_line_feed text i h in
    rw (take-drop_rest text (i + 1)) (line_before text i at.1 (omega arith))

pub line_last : (text : List ℕ) → 0 < length text
    → position is_line_feed text ≡ None
    → lines_of text ≡ text ∷ lines_of (take (length text - length text) (drop (length text) text))
line_last text l h =
    let z : length text - length text ≡ 0 = omega arith in
    rw z (line_alone text l (position-none is_line_feed text h))

-- a line that holds no line feed, and what follows its own
pub line_first : (line rest : List ℕ) → All (λ b. is_line_feed b ≡ false) line
    → lines_of (line ++ 10 ∷ rest) ≡ line ∷ lines_of rest
line_first [] rest none = refl
line_first (b ∷ line) rest none =
    rw (
      All-head (λ x. is_line_feed x ≡ false) b line none,
      line_first line rest
          (All-tail (λ x. is_line_feed x ≡ false) b line none),
    ) refl
