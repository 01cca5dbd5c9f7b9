use Rattle.std.proofs.Common.{◌++◌, [], ◌∷◌}
use Rattle.hg_race.proofs.TurnLemmas.{handed_more, took_more}
use Rattle.hg_race.proofs.taking.take_all.Goals as goal

pub loop-preserved : goal.loop-preserved
loop-preserved g c =
    let i = c.loop.invariant in
    let bytes = c.deref.result.now in (
      i.0 ++ bytes ∷ [],
      took_more _ _ _ i.0 _ bytes i.1 c.in-Some-take.ensures.taken c.deref.ensures.value,
      handed_more _ i.0 bytes _ _ _ i.2 c.in_ok-take_one-in-Some-take.ensures,
    )
