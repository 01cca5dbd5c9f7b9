-- How much a message holds.
use Rattle.std.specs.Prelude.{ℕ}

-- the most that a number in four bytes can tell
abbrev pub count_limit : ℕ
count_limit = 4294967295

-- the most bytes of a record: its head has 64, and a text up to 1,048,576
abbrev pub record_limit : ℕ
record_limit = 1048640
