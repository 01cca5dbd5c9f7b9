use Rattle.std.proofs.Common.{◌+◌, take, get_or}
use Rattle.hg_phases.specs.declared.phase.Phase.TheVariants.{Public}
use Rattle.hg_phases.specs.declared.lowered.LoweredPlace.{LoweredPlace}
use Rattle.hg_phases.specs.RootPlaces.{IsPlaceOrChild, IsTouched}
use Rattle.hg_phases.proofs.RootPlaceLemmas.{recomputed-then, touched-one}
use Rattle.hg_phases.proofs.root_places.recompute_logged.Goals as goal

pub loop-lowered-preserved : goal.loop-lowered-preserved
loop-lowered-preserved c =
    let any : LoweredPlace = record { place = 0; had = Public } in
    recomputed-then _ _ _ _ _ _ _ _
    c.loop-lowered.invariant c.recompute_family.ensures (touched-one _ _ _ _ c.loop-lowered-test.true)
