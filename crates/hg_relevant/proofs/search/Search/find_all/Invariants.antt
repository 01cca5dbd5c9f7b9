use Rattle.std.proofs.Common.{take, Contains}
use Rattle.hg_relevant.specs.Search.{Finds}
use Rattle.hg_relevant.proofs.search.Search.find_all.Given as goal

abbrev pub invariant-loop-place : goal.invariant-loop-place
invariant-loop-place l = Finds (Contains (take l.place-index l.places)) l.fn.self l.self
