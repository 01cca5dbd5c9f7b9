-- How many successors a marker names, and how long its metadata is.
use Rattle.std.specs.Prelude.{ℕ}

-- the most successors: their number has one byte
abbrev pub successor_limit : ℕ
successor_limit = 255

-- the most bytes of metadata
abbrev pub metadata_limit : ℕ
metadata_limit = 1048576
