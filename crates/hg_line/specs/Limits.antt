-- How long lines and their parts may be, in bytes.
use Rattle.std.specs.Prelude.{ℕ}

-- a line, without its end
abbrev pub line_limit : ℕ
line_limit = 4096

-- a name
abbrev pub name_limit : ℕ
name_limit = 32
