use Rattle.std.proofs.Common.{◌≡◌, ◌⊎◌, Contains, take}
use Rattle.hg_phases.specs.RootPlaces.{AreRecomputed}
use Rattle.hg_phases.proofs.root_places.recompute_family.Given as goal

abbrev pub invariant-loop-child : goal.invariant-loop-child
invariant-loop-child l = AreRecomputed l.graph l.phases
    (λ p. (l.place ≡ p) ⊎ Contains (take l.child-index l.child-items) p) l.fn.roots l.roots
