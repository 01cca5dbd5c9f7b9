use Rattle.std.proofs.Common.{take}
use Rattle.hg_succ.specs.Holders.{Notes}
use Rattle.hg_succ.proofs.holders.note.Given as goal

abbrev pub invariant-loop-number : goal.invariant-loop-number
invariant-loop-number l = Notes l.bit (take l.number-index l.row) l.initial.words.items l.words.items
