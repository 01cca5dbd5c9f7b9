-- A script that is filled in with what its lines printed, and how that differs from what it was.
use Rattle.std.specs.Prelude.{ℕ, ◌+◌, ◌==◌, ◌&&◌, List, [], ◌∷◌, ◌++◌, Bool, not, length, count_by, if◌then◌else◌}
use Rattle.std.specs.Prelude.{codes, decimal}
use Rattle.std.specs.Str.Lines.{lines}
use Rattle.hg_expect.specs.Expectations.{Text, expected, first_text, is_done, is_head, is_met, later_texts, marked}

-- lines one after the other, each with this in front and an LF behind it
abbrev pub under : Text → List Text → Text
under front [] = []
under front (line ∷ lines) = front ++ (line ++ 10 ∷ under front lines)

-- ---- the script filled in

-- the line with this number, and behind it what it printed; an expectation gives way to that
abbrev pub filled_line : ℕ → Text → Text → List Text
filled_line number line output = if is_head number line then line ∷ marked output else []

-- the lines from the one with this number on, each with what it printed behind it
abbrev pub filled : ℕ → List Text → List Text → List Text
filled number [] outputs = []
filled number (line ∷ lines) outputs =
    filled_line number line (first_text outputs) ++ filled (number + 1) lines (later_texts outputs)

-- the text of the script whose lines printed this
abbrev pub filled_text : Text → List Text → Text
filled_text text outputs = under [] (filled 1 (lines text) outputs)

-- ---- in what it differs

-- something else is expected of the line than it printed
abbrev pub differs : ℕ → Text → List Text → Text → Bool
differs number line after output = is_head number line && not (is_met after output)

-- one for a line that differs so
abbrev pub differing_line : ℕ → Text → List Text → Text → ℕ
differing_line number line after output = if differs number line after output then 1 else 0

-- how many lines differ so, from the one with this number on
abbrev pub differing : ℕ → List Text → List Text → ℕ
differing number [] outputs = 0
differing number (line ∷ lines) outputs =
    differing_line number line lines (first_text outputs) + differing (number + 1) lines (later_texts outputs)

-- where a hunk begins, and how many lines it has: as the script is, and as it would be
abbrev pub hunk_head : ℕ → ℕ → ℕ → ℕ → Text
hunk_head old old_count new new_count =
    codes "@@ -" ++ (decimal old ++ (codes "," ++ (decimal old_count ++ (codes " +" ++ (decimal new ++ (codes ","
    ++ (decimal new_count ++ codes " @@")))))))

-- the line, what was expected of it, and what it printed
abbrev pub hunk : ℕ → ℕ → Text → List Text → List Text → Text
hunk old new line expectations printed =
    under [] (hunk_head old (length expectations + 1) new (length printed + 1) ∷ [])
    ++ (under (codes " ") (line ∷ []) ++ (under (codes "-") expectations ++ under (codes "+") printed))

-- the hunk of the line with this number, which would have the other, if it differs
abbrev pub hunk_of : ℕ → ℕ → Text → List Text → Text → Text
hunk_of old new line after output =
    if differs old line after output then hunk old new line (expected after) (marked output) else []

-- those from the line with this number on, which would have the other
abbrev pub hunks : ℕ → ℕ → List Text → List Text → Text
hunks old new [] outputs = []
hunks old new (line ∷ lines) outputs =
    hunk_of old new line lines (first_text outputs)
    ++ hunks (old + 1) (new + length (filled_line old line (first_text outputs))) lines (later_texts outputs)

-- ---- what is told

-- how many lines were checked, and how many differ
abbrev pub tally : ℕ → ℕ → Text
tally lines differ = decimal lines ++ (codes " lines checked, " ++ (decimal differ ++ codes " differ"))

-- the names of the two texts, where some line differs
abbrev pub names : ℕ → List Text
names differ = if differ == 0 then [] else codes "--- script" ∷ codes "+++ script" ∷ []

-- of so many lines so many differ: these hunks, and behind them the tally
abbrev pub account : ℕ → ℕ → Text → Text
account lines differ hunks = under [] (names differ) ++ (hunks ++ under [] (tally lines differ ∷ []))

-- what is told of the script whose lines printed this
abbrev pub told : Text → List Text → Text
told text outputs =
    account (count_by is_done (lines text)) (differing 1 (lines text) outputs) (hunks 1 1 (lines text) outputs)
