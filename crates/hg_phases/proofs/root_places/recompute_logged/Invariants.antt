use Rattle.std.proofs.Common.{take}
use Rattle.hg_phases.specs.RootPlaces.{AreRecomputed, IsTouched}
use Rattle.hg_phases.proofs.root_places.recompute_logged.Given as goal

abbrev pub invariant-loop-lowered : goal.invariant-loop-lowered
invariant-loop-lowered l =
    AreRecomputed l.graph l.phases (IsTouched l.graph (take l.lowered-index l.log)) l.fn.roots l.roots
