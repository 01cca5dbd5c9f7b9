-- How many entries a journal has.
use Rattle.std.specs.Prelude.{ℕ, ◌^◌}

-- the most entries
abbrev pub entry_limit : ℕ
entry_limit = 2 ^ 62
