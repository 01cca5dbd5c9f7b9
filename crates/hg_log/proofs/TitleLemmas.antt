-- What stands behind an empty line.
use Rattle.std.proofs.Common.{◌≡◌, ◌-◌, ◌≤◌, ◌∷◌, ℕ, List, [], None, arith, drop, length, refl}
use Rattle.std.proofs.lemmas.List.{length-drop}
use Rattle.hg_log.specs.Titles.{behind_empty_line}

-- a byte alone is no empty line with one before
short_behind : (xs : List ℕ) → length xs ≤ 1 → behind_empty_line xs ≡ None
short_behind [] le = refl
short_behind (a ∷ []) le = refl
short_behind (a ∷ b ∷ rest) le = absurd (omega (arith, le))

pub none_behind : (text : List ℕ) (i : ℕ) → length text ≤ i → behind_empty_line (drop (i - 1) text) ≡ None
none_behind text i le = short_behind (drop (i - 1) text) (omega (arith, le, length-drop (i - 1) text))
