use Rattle.std.proofs.Common.{◌≤◌, ◌<◌}
use Rattle.hg_phases.specs.RootPlaces.{AreRecomputed}
use Rattle.hg_phases.proofs.root_places.recompute_added.Given as goal

abbrev pub invariant-loop-place : goal.invariant-loop-place
invariant-loop-place l = AreRecomputed l.graph l.phases (λ p. (l.before ≤ p) × (p < l.place)) l.fn.roots l.roots
