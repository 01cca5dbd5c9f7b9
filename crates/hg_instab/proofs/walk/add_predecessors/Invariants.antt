use Rattle.std.proofs.Common.{take}
use Rattle.hg_instab.specs.Walk.{Adds}
use Rattle.hg_instab.proofs.WalkLemmas.{IsBeforeAt}
use Rattle.hg_instab.proofs.walk.add_predecessors.Given as goal

abbrev pub invariant-loop-place : goal.invariant-loop-place
invariant-loop-place l = Adds (IsBeforeAt l.store (take l.place-index l.place-items)) l.fn.seen.keys l.seen.keys
