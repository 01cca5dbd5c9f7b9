use Rattle.std.proofs.Common.{◌≡◌, ◌++◌, take}
use Rattle.hg_log.specs.Titles.{escaped}
use Rattle.hg_log.proofs.described.push_label.Given as goal

abbrev pub invariant-loop-byte : goal.invariant-loop-byte
invariant-loop-byte l = l.line.items ≡ l.initial.line.items ++ escaped (take l.byte-index l.label)
