-- Fronts of a text that end with a line.
use Rattle.std.specs.Prelude.{ℕ, ◌≡◌, ◌+◌, ◌∷◌, drop, take}
use Rattle.std.specs.Str.Lines.{lines}
use Rattle.hg_expect.specs.Expectations.{Text}

-- the first line has so many bytes, its LF among them: whatever more of the text is taken, the lines of that are this
-- line, and those of what comes after it
abbrev pub IsLineLong : Text → ℕ → Type 0
IsLineLong text n = (line : Text) × ((k : ℕ) → lines (take (n + k) text) ≡ line ∷ lines (take k (drop n text)))
