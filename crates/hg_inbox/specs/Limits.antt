-- How many seats an inbox gives.
use Rattle.std.specs.Prelude.{ℕ, ◌+◌, ◌^◌}

-- the most seats
abbrev pub seat_limit : ℕ
seat_limit = 2 ^ 62

-- all parts of the right to see the whole: one for each seat, and one for the inbox
abbrev pub all_parts : ℕ
all_parts = seat_limit + 1
