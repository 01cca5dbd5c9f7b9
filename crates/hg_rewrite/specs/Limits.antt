-- How many changesets a split makes, and how many a fold takes.
use Rattle.std.specs.Prelude.{ℕ}
use Rattle.hg_marker.specs.Limits.{successor_limit}

-- the least that a split makes; fewer would be an amend or a prune
abbrev pub split_least : ℕ
split_least = 2

-- the most, which are the successors that a marker can name
abbrev pub split_most : ℕ
split_most = successor_limit

-- the least that a fold takes; fewer would be an amend
abbrev pub fold_least : ℕ
fold_least = 2
