use Rattle.std.proofs.Common.{take}
use Rattle.hg_instab.specs.Walk.{Adds, IsFollowed}
use Rattle.hg_instab.proofs.WalkLemmas.{IsNextAt}
use Rattle.hg_instab.proofs.walk.add_successors.Given as goal

abbrev pub invariant-loop-place : goal.invariant-loop-place
invariant-loop-place l = Adds (IsNextAt (IsFollowed l.followed) l.store (take l.place-index l.place-items))
    l.fn.seen.keys l.seen.keys
