use Rattle.std.proofs.Common.{◌≡◌, ◌++◌, take}
use Rattle.hg_show.specs.Printing.{escaped}
use Rattle.hg_show.proofs.line.push_escaped.Given as goal

abbrev pub invariant-loop-byte : goal.invariant-loop-byte
invariant-loop-byte l = l.line.items ≡ l.initial.line.items ++ escaped l.quote (take l.byte-index l.bytes)
