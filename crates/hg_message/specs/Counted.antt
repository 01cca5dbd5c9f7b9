-- Parts one after the other, so many as a number before them tells.
use Rattle.std.specs.Prelude.{ℕ, zero, suc, List, [], ◌∷◌, Result, Ok, Err}
use Rattle.hg_marker.specs.Reading.{Reader, ◌>>=◌, says}

-- n parts, the first of which has this index
unfoldable pub counted : {F A : Type 0} → (ℕ → Reader F A) → ℕ → ℕ → Reader F (List A)
counted part index zero = says []
counted part index (suc n) = do
  first ← part index
  others ← counted part (suc index) n
  says (first ∷ others)

-- what was read, without the bytes after it
abbrev pub first_of : {F A : Type 0} → Result (A × List ℕ) F → Result A F
first_of (Ok x) = Ok x.0
first_of (Err fault) = Err fault
