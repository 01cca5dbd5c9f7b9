-- The lines of a text.
use Rattle.std.specs.Prelude.{ℕ, ◌==◌, List, [], ◌∷◌, Bool, if◌then◌else◌}
use Rattle.hg_changeset.specs.Bytes.{line_feed}

abbrev pub is_line_feed : ℕ → Bool
is_line_feed b = b == line_feed

-- the byte before the first line, which is a line of its own where there is none
abbrev pub before_lines : ℕ → List (List ℕ) → List (List ℕ)
before_lines b [] = (b ∷ []) ∷ []
before_lines b (line ∷ lines) = (b ∷ line) ∷ lines

-- what stands before each line feed, and after the last one where anything does
abbrev pub lines_of : List ℕ → List (List ℕ)
lines_of [] = []
lines_of (b ∷ text) = if is_line_feed b then [] ∷ lines_of text else before_lines b (lines_of text)
