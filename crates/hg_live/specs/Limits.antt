-- How many calls a node accepts, and how many passes it gives.
use Rattle.std.specs.Prelude.{ℕ, ◌^◌}
use Rattle.hg_journal.specs.Limits.{entry_limit}

-- the most calls: each has an entry in the journal
abbrev pub call_limit : ℕ
call_limit = entry_limit

-- the most passes that are ever made
abbrev pub pass_limit : ℕ
pass_limit = 2 ^ 62
