-- How many changesets a round asks about.
use Rattle.std.specs.Prelude.{ℕ}

-- the most ids of a round, as Mercurial's sample has them
abbrev pub sample_size : ℕ
sample_size = 200
