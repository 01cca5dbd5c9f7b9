use Rattle.std.proofs.Common.{◌<◌, ℕ, Contains}
use Rattle.hg_instab.proofs.first.every_marker.Given as goal

abbrev pub invariant-loop-place : goal.invariant-loop-place
invariant-loop-place l = (k : ℕ) → k < l.place → Contains l.markers.items k
