use Rattle.std.proofs.Common.{take}
use Rattle.hg_replica.specs.Content.{content_of}
use Rattle.hg_succ.specs.Successors.{HasSeveral}
use Rattle.hg_succ.proofs.NumberLemmas.{AreAmong}
use Rattle.hg_succ.proofs.successors.several_among.Given as goal

abbrev pub invariant-loop-node : goal.invariant-loop-node
invariant-loop-node l = AreAmong (take l.node-index l.nodes) (HasSeveral (content_of l.replica)) l.found.keys
