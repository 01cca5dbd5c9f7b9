use Rattle.std.proofs.Common.{◌≡◌, drop}
use Rattle.std.specs.Char.{is_ascii_hexdigit}
use Rattle.std.specs.List.{list_all}
use Rattle.hg_log.proofs.titles.are_digits.Given as goal

-- all are digits where the ones that are left are
abbrev pub invariant-loop-byte : goal.invariant-loop-byte
invariant-loop-byte l = list_all is_ascii_hexdigit l.bytes ≡ list_all is_ascii_hexdigit (drop l.byte-index l.bytes)
