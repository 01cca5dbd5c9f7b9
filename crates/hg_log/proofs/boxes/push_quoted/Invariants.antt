use Rattle.hg_log.specs.Drawings.{Extends}
use Rattle.hg_log.proofs.boxes.push_quoted.Given as goal

abbrev pub invariant-loop-byte : goal.invariant-loop-byte
invariant-loop-byte l = Extends l.initial.line.items l.line.items
