use Rattle.hg_replica.specs.Content.{content_of}
use Rattle.hg_view.specs.Pins.{IsServedUnder}
use Rattle.hg_discovery.specs.Rounds.{undecided}
use Rattle.hg_discovery.proofs.BetweenLemmas.{IsAskedSoFar}
use Rattle.hg_discovery.proofs.between.ask_in_rounds.Given as goal

abbrev pub invariant-loop-alloc : goal.invariant-loop-alloc
invariant-loop-alloc l =
    IsAskedSoFar (IsServedUnder (content_of l.other.replica) l.other.pins) l.asker l.discovery

abbrev pub decreases-loop-alloc : goal.decreases-loop-alloc
decreases-loop-alloc l = undecided l.discovery.decided
