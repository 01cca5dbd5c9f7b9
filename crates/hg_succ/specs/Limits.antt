-- In how many ways sets are united.
use Rattle.std.specs.Prelude.{ℕ}

-- the most ways in which sets are united at one node; Mercurial has no such limit
abbrev pub union_limit : ℕ
union_limit = 4096
