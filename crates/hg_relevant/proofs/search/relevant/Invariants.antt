use Rattle.std.proofs.Common.{◌-◌, length}
use Rattle.hg_relevant.specs.Search.{IsSearched}
use Rattle.hg_relevant.proofs.search.relevant.Given as goal

abbrev pub invariant-loop-next : goal.invariant-loop-next
invariant-loop-next l = IsSearched l.store l.nodes l.nodes l.search l.next

abbrev pub decreases-loop-next : goal.decreases-loop-next
decreases-loop-next l = length l.store - l.next
