use Rattle.std.proofs.Common.{arith}
use Rattle.hg_phases.proofs.RootPlaceLemmas.{recomputed-from}
use Rattle.hg_phases.proofs.root_places.recompute_added.Goals as goal

pub returns : goal.returns
returns c =
    recomputed-from c.args.graph.now c.args.phases.now c.args.before c.loop-place.place c.args.roots.now
    c.loop-place.roots
    c.requires.len c.requires.seats c.loop-place.invariant
    (omega (arith, c.loop-place-test.false, c.len-place-end.ensures.len))
