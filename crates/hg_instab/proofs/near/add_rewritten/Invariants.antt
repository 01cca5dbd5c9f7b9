use Rattle.std.proofs.Common.{take}
use Rattle.hg_instab.specs.Region.{IsStart}
use Rattle.hg_instab.specs.Walk.{Adds}
use Rattle.hg_instab.proofs.near.add_rewritten.Given as goal

abbrev pub invariant-loop-place : goal.invariant-loop-place
invariant-loop-place l = Adds (IsStart l.store l.near.keys (take l.place-index l.places)) l.fn.starts.keys l.starts.keys
