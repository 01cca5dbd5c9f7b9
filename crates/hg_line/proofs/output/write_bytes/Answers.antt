use Rattle.std.proofs.Common.{◌++◌, take}
use Rattle.std.proofs.KnownBytes.{Appends-kept, Appends-trans}
use Rattle.hg_line.proofs.GrowLemmas.{moves_front}
use Rattle.hg_line.proofs.output.write_bytes.Goals as goal
use Rattle.hg_line.proofs.output.write_bytes.Goals.{in-Ok, in-Err+else-ne}

pub loop-preserved : goal.loop-preserved
loop-preserved g c =
    let (done, split, grew) = c.loop.invariant in
    let rest = c.loop.rest.now in
    elim c.match-write.branch [
      | in-Ok w ↦ (
        done ++ take w.in-Ok.count rest,
        rw w.rest-is (moves_front _ done rest w.in-Ok.count split),
        Appends-trans _ _ _ _ _ grew w.in-Ok.ensures.bytes,
      )
      | in-Err+else-ne w ↦ (
        done,
        rw w.rest-is split,
        Appends-kept _ _ _ _ grew w.in-Err.ensures.bytes,
      )
    ]
