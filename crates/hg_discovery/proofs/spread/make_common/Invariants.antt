use Rattle.std.proofs.Common.{◌+◌, ◌-◌, length}
use Rattle.hg_discovery.specs.declared.finding.Finding.TheVariants.{Common}
use Rattle.hg_discovery.specs.Rounds.{undecided}
use Rattle.hg_discovery.proofs.WalkLemmas.{IsWalked, ToParent, Below}
use Rattle.hg_discovery.proofs.spread.make_common.Given as goal

abbrev pub invariant-loop-next : goal.invariant-loop-next
invariant-loop-next l = IsWalked Common (ToParent l.parents) (Below l.parents l.place) l.place l.fn.decided
    l.fn.queue.items l.decided l.queue.items l.next

abbrev pub decreases-loop-next : goal.decreases-loop-next
decreases-loop-next l = undecided l.decided + length l.queue.items - l.next
