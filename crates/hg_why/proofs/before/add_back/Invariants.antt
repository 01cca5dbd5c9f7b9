use Rattle.std.proofs.Common.{take}
use Rattle.hg_instab.specs.Walk.{Adds, IsOfOneAt}
use Rattle.hg_why.specs.Before.{LeadsBackTo}
use Rattle.hg_why.proofs.before.add_back.Given as goal

abbrev pub invariant-loop-place : goal.invariant-loop-place
invariant-loop-place l = Adds (IsOfOneAt (LeadsBackTo l.steps) l.store (take l.place-index l.place-items))
    l.fn.found.keys l.found.keys
