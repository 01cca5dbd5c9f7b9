use Rattle.std.proofs.Common.{◌≡◌, ◌≤◌, take, length}
use Rattle.hg_phases.proofs.place_set.PlaceSet.truncate.Given as goal

abbrev pub invariant-loop-self : goal.invariant-loop-self
invariant-loop-self l = (l.bound ≤ length l.self) × (take l.bound l.self ≡ take l.bound l.fn.self)

abbrev pub decreases-loop-self : goal.decreases-loop-self
decreases-loop-self l = length l.self
