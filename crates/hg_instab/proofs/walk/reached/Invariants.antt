use Rattle.std.proofs.Common.{◌-◌, ◌++◌, length}
use Rattle.hg_instab.specs.Walk.{IsStep}
use Rattle.hg_instab.proofs.WalkLemmas.{IsWalked, ids}
use Rattle.hg_instab.proofs.walk.reached.Given as goal

abbrev pub invariant-loop-next : goal.invariant-loop-next
invariant-loop-next l = IsWalked (IsStep l.way l.store) l.fn.starts.keys l.seen.keys l.next

abbrev pub decreases-loop-next : goal.decreases-loop-next
decreases-loop-next l = length (l.fn.starts.keys ++ ids l.store) - l.next
