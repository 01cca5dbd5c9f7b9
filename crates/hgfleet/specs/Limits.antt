-- How large what is read may be.
use Rattle.std.specs.Prelude.{ℕ}
use Rattle.hg_script.specs.Limits.{script_limit}

-- a script has no more lines than it may have bytes
abbrev pub line_number_limit : ℕ
line_number_limit = script_limit

-- a file, in bytes: 1 GiB
abbrev pub file_limit : ℕ
file_limit = 1073741824
