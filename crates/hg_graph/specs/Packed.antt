-- A place, or none, in one number.
use Rattle.std.specs.Prelude.{ℕ, zero, suc, Option, None, Some}

-- 0 stands for none, and otherwise the number is the place and one more
abbrev pub place_in : ℕ → Option ℕ
place_in zero = None
place_in (suc place) = Some place
