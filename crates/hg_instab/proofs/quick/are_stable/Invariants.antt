use Rattle.std.proofs.Common.{take}
use Rattle.hg_replica.specs.Content.{content_of}
use Rattle.hg_instab.specs.Quick.{AreStable}
use Rattle.hg_instab.proofs.quick.are_stable.Given as goal

abbrev pub invariant-loop-index : goal.invariant-loop-index
invariant-loop-index l = AreStable (content_of l.replica) l.sets (take l.index l.added)
