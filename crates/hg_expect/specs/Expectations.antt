-- What the lines of a script print, and what is expected of them.
use Rattle.std.specs.Prelude.{ℕ, ◌==◌, ◌||◌, List, [], ◌∷◌, ◌++◌, Bool, false, not, map, if◌then◌else◌, codes, nat_eq}
use Rattle.std.specs.List.{starts_with}
use Rattle.std.specs.Str.{bytes_eq}
use Rattle.std.specs.Str.Lines.{lines}
use Rattle.std.specs.Cmp.Lexicographic.{pointwise}
use Rattle.std.specs.declared.vec.Vec.{Vec}
use Rattle.std.specs.declared.alloc.Global.{Global}

abbrev pub Text : Type 0
Text = List ℕ

-- ---- expectations

-- the line is `#>`, or begins with that and a space
abbrev pub is_expected : Text → Bool
is_expected line = bytes_eq line (codes "#>") || starts_with nat_eq line (codes "#> ")

-- the lines at the front that are expectations
abbrev pub expected : List Text → List Text
expected [] = []
expected (line ∷ lines) = if is_expected line then line ∷ expected lines else []

-- a printed line, as it is expected
abbrev pub marked_line : Text → Text
marked_line [] = codes "#>"
marked_line (b ∷ line) = codes "#> " ++ b ∷ line

-- what is expected where this is printed
abbrev pub marked : Text → List Text
marked output = map marked_line (lines output)

-- of a line that these follow so much is expected as it printed
abbrev pub is_met : List Text → Text → Bool
is_met lines output = pointwise bytes_eq (expected lines) (marked output)

-- the line with this number is no expectation; none stands before the first line of a script, so it is never one
abbrev pub is_head : ℕ → Text → Bool
is_head number line = number == 1 || not (is_expected line)

-- the line is neither a comment nor empty
abbrev pub is_done : Text → Bool
is_done [] = false
is_done (b ∷ line) = not (b == 35)

-- ---- what lines printed

-- the bytes of each output
abbrev pub texts : List (Vec ℕ Global) → List Text
texts outputs = map (λ output. output.items) outputs

-- what the first line printed; nothing where no output is left
abbrev pub first_text : List Text → Text
first_text [] = []
first_text (text ∷ texts) = text

abbrev pub later_texts : List Text → List Text
later_texts [] = []
later_texts (text ∷ texts) = texts
