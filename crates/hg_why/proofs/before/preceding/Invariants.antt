use Rattle.std.proofs.Common.{◌-◌, length}
use Rattle.hg_why.proofs.BeforeLemmas.{IsWalkedBack}
use Rattle.hg_why.proofs.before.preceding.Given as goal

abbrev pub invariant-loop-next : goal.invariant-loop-next
invariant-loop-next l = IsWalkedBack l.replica l.steps l.fn.node l.found.keys l.next

abbrev pub decreases-loop-next : goal.decreases-loop-next
decreases-loop-next l = length l.replica.markers - l.next
