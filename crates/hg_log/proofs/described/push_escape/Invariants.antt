use Rattle.std.proofs.Common.{◌≡◌, ◌++◌}
use Rattle.std.specs.Char.Iter.{escape_byte_rest}
use Rattle.hg_log.proofs.described.push_escape.Given as goal

abbrev pub invariant-loop-part : goal.invariant-loop-part
invariant-loop-part l =
    l.line.items ++ escape_byte_rest l.part-iterator ≡ l.initial.line.items ++ escape_byte_rest l.initial.part-iterator
