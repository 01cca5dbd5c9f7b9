-- How what a writer holds grows.
use Rattle.std.specs.Prelude.{ℕ, List, Option}
use Rattle.std.specs.Io.KnownBytes.{Appends}

-- what the writer holds, where that is known, grew by this text
abbrev pub Printed : Option (List ℕ) → List ℕ → Option (List ℕ) → Type 0
Printed held text holds = Appends held holds text

-- it grew by some text, or stayed
abbrev pub Grows : Option (List ℕ) → Option (List ℕ) → Type 0
Grows held holds = (more : List ℕ) × Printed held more holds
