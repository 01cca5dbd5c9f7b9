use Rattle.std.proofs.Common.{◌+◌, ◌-◌, length}
use Rattle.hg_discovery.specs.declared.finding.Finding.TheVariants.{Missing}
use Rattle.hg_discovery.specs.Rounds.{undecided}
use Rattle.hg_discovery.specs.Under.{IsUnder}
use Rattle.hg_discovery.proofs.WalkLemmas.{IsWalked, ToChild}
use Rattle.hg_discovery.proofs.spread.make_missing.Given as goal

abbrev pub invariant-loop-next : goal.invariant-loop-next
invariant-loop-next l = IsWalked Missing (ToChild l.parents) (IsUnder l.parents l.place) l.place l.fn.decided
    l.fn.queue.items l.decided l.queue.items l.next

abbrev pub decreases-loop-next : goal.decreases-loop-next
decreases-loop-next l = undecided l.decided + length l.queue.items - l.next
