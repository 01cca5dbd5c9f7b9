-- The rule of a journal, and what its steps tell.
use Rattle.std.specs.Prelude.{ℕ, ◌≡◌, ◌<◌, true, List, [], ◌∷◌, ◌++◌, Option, None, Some, length}
use Rattle.logbook.specs.Pages.{Cell, cell, Step, View, Book, Named, may_make}

-- what was noted: an entry, or the beginning of the journal, and the key of the cell that is away since then
abbrev pub Notes : Type 0 → Type 0
Notes E = List (Option E × ℕ)

-- of each note but the last the cell is at home
abbrev pub AreHome : {E : Type 0} → List Cell → Notes E → Type 0
AreHome cells [] = Unit {0}
AreHome cells (note ∷ []) = Unit {0}
AreHome cells (note ∷ next ∷ rest) = ((cell cells note.1).1 ≡ true) × AreHome cells (next ∷ rest)

-- the first word is the number of notes, and of each note but the last the cell is at home
pub record IsJournal {E : Type 0} (cells : List Cell) (notes : Notes E) : Type 0 where
  pub some : 0 < length cells
  pub head : cell cells 0 ≡ (length notes, true)
  pub home : AreHome cells notes

abbrev pub head_of : Book → Named
head_of b = record { tracked = true; key = 0; book = b }

-- the entries among the notes
abbrev pub entries : {E : Type 0} → Notes E → List E
entries [] = []
entries ((None, key) ∷ rest) = entries rest
entries ((Some entry, key) ∷ rest) = entry ∷ entries rest

-- the notes end with this key
abbrev pub EndsWith : {E : Type 0} → Notes E → ℕ → Type 0
EndsWith {E} notes key = (before : Notes E) × (entry : Option E) × (notes ≡ before ++ (entry, key) ∷ [])

-- the journal was empty, and has a first note with the key of a new cell; or it wasn't
abbrev pub Begins : {E : Type 0} → Step (Option E × ℕ) → View (Option E × ℕ) ℕ → ℕ → View (Option E × ℕ) ℕ → Type 0
Begins s v found w = (found ≡ 0) → (w.0 ≡ (None, w.1.0.key) ∷ []) × (w.1.0.right ≡ may_make)

-- there is a new cell, and the right to make its word
abbrev pub Grows : {E : Type 0} → Step (Option E × ℕ) → View (Option E × ℕ) ℕ → ℕ → View (Option E × ℕ) ℕ → Type 0
Grows s v found w = w.1.0.right ≡ may_make

-- the entry was added to all that had been seen, which was the whole journal
abbrev pub Adds : {E : Type 0} → Step (Option E × ℕ) → View (Option E × ℕ) ℕ → ℕ → View (Option E × ℕ) ℕ → Type 0
Adds s v found w = (w.0 ≡ v.0 ++ s.ask ∷ []) × (length v.0 ≡ s.old)
