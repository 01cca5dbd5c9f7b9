-- Cells that are at home stay so.
use Rattle.std.proofs.Common.{◌≡◌, ℕ, zero, suc, ◌<◌, Bool, true, false, List, [], ◌∷◌, ◌++◌, length, set}
use Rattle.std.proofs.Common.{refl, ap, arith, Option}
use Rattle.std.proofs.lemmas.List.{get_or-set_same}
use Rattle.logbook.specs.Pages.{Cell, cell}
use Rattle.hg_journal.specs.Rules.{Notes, AreHome}

abbrev pub is_home : List Cell → ℕ → Bool
is_home cells key = (cell cells key).1

-- these cells are at home in others too
abbrev pub StayHome : List Cell → List Cell → Type 0
StayHome cells others = (key : ℕ) → is_home cells key ≡ true → is_home others key ≡ true

-- one more cell
pub stay_longer : (cells more : List Cell) → StayHome cells (cells ++ more)
stay_longer [] more key h = absurd (cc h)
stay_longer (c ∷ cells) more zero h = h
stay_longer (c ∷ cells) more (suc key) h = stay_longer cells more key h

-- a cell that comes home, or that changes at home
pub stay_set : (cells : List Cell) (at n : ℕ) → StayHome cells (set cells at (n, true))
stay_set [] at n key h = h
stay_set (c ∷ cells) zero n zero h = refl
stay_set (c ∷ cells) zero n (suc key) h = h
stay_set (c ∷ cells) (suc at) n zero h = h
stay_set (c ∷ cells) (suc at) n (suc key) h = stay_set cells at n key h

pub set_is_home : (cells : List Cell) (at n : ℕ) → at < length cells → is_home (set cells at (n, true)) at ≡ true
set_is_home cells at n h = ap (λ (c : Cell). c.1) (get_or-set_same cells at (n, true) (0, false) h)

pub are_home_still : {E : Type 0} (cells others : List Cell) (notes : Notes E) → StayHome cells others →
    AreHome cells notes → AreHome others notes
are_home_still cells others [] stay h = tt
are_home_still cells others (note ∷ []) stay h = tt
are_home_still cells others (note ∷ next ∷ rest) stay h =
    (stay note.1 h.0, are_home_still cells others (next ∷ rest) stay h.1)

-- a note before the last has its cell at home
pub home_before_last : {E : Type 0} (cells : List Cell) (before : Notes E) (note next : Option E × ℕ) (rest : Notes E) →
    AreHome cells (before ++ note ∷ next ∷ rest) → is_home cells note.1 ≡ true
home_before_last cells [] note next rest h = h.0
home_before_last cells (b ∷ []) note next rest h = h.1.0
home_before_last cells (b ∷ c ∷ before) note next rest h = home_before_last cells (c ∷ before) note next rest h.1

-- one note more, once the last one's cell is at home
pub home_snoc : {E : Type 0} (cells : List Cell) (before : Notes E) (note last : Option E × ℕ) →
    AreHome cells (before ++ note ∷ []) → is_home cells note.1 ≡ true →
    AreHome cells ((before ++ note ∷ []) ++ last ∷ [])
home_snoc cells [] note last h home = (home, tt)
home_snoc cells (b ∷ []) note last h home = (h.0, (home, tt))
home_snoc cells (b ∷ c ∷ before) note last h home = (h.0, home_snoc cells (c ∷ before) note last h.1 home)
