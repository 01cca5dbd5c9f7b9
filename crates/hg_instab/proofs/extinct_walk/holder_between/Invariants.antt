use Rattle.std.proofs.Common.{◌≤◌, ◌<◌, ℕ, get_or}
use Rattle.hg_phases.specs.State.{changesets}
use Rattle.hg_instab.specs.Changed.{IsNow}
use Rattle.hg_instab.specs.Settling.{IsSoAt}
use Rattle.hg_instab.proofs.extinct_walk.holder_between.Given as goal

abbrev pub invariant-loop-index : goal.invariant-loop-index
invariant-loop-index l = (i : ℕ) → l.index ≤ i → i < l.high
    → IsSoAt (changesets l.replica.history) (IsNow l.extinct.keys l.turned.keys) (get_or l.places i 0)
