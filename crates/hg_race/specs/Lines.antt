-- The lines of a race.
use Rattle.std.specs.Prelude.{ℕ, List, [], ◌∷◌, ◌++◌, ◌*◌, ◌-◌, ◌/◌, codes, decimal}

-- a word and how many there are of what it names
abbrev pub counted_line : List ℕ → ℕ → List ℕ
counted_line word count = word ++ (codes " " ++ (decimal count ++ 10 ∷ []))

-- how many pairs of nodes agree, of how many
abbrev pub pairs_line : ℕ → ℕ → List ℕ
pairs_line agreeing pairs =
    codes "agreeing pairs " ++ (decimal agreeing ++ (codes " of " ++ (decimal pairs ++ 10 ∷ [])))

-- how many nodes raced for how many rounds, and what they wrote, read back and agree on
abbrev pub race_lines : ℕ → ℕ → ℕ → ℕ → ℕ → List ℕ
race_lines nodes rounds written read_back agreeing =
    counted_line (codes "nodes") nodes
    ++ (counted_line (codes "rounds") rounds
    ++ (counted_line (codes "written") written
    ++ (counted_line (codes "read back") read_back ++ pairs_line agreeing (nodes * (nodes - 1) / 2))))
