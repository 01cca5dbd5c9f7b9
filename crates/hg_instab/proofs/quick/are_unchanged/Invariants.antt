use Rattle.std.proofs.Common.{take}
use Rattle.hg_replica.specs.Content.{content_of}
use Rattle.hg_instab.specs.Quick.{AreUnchanged}
use Rattle.hg_instab.proofs.quick.are_unchanged.Given as goal

abbrev pub invariant-loop-node : goal.invariant-loop-node
invariant-loop-node l = AreUnchanged (content_of l.replica) l.sets (take l.node-index l.lowered)
