-- How long a script may be, in bytes.
use Rattle.std.specs.Prelude.{ℕ}

abbrev pub script_limit : ℕ
script_limit = 1048576
