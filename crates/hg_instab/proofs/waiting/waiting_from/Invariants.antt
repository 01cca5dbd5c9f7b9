use Rattle.std.proofs.Common.{take}
use Rattle.hg_instab.specs.Settling.{WaitFrom}
use Rattle.hg_instab.proofs.waiting.waiting_from.Given as goal

abbrev pub invariant-loop-other : goal.invariant-loop-other
invariant-loop-other l = WaitFrom l.beside l.graph l.places (take l.other-index l.others) l.waiting
