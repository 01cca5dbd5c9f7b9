use Rattle.std.proofs.Common.{take, Contains}
use Rattle.hg_obsstore.specs.Markers.{IsAt}
use Rattle.hg_relevant.specs.Relevant.{IsPrune}
use Rattle.hg_relevant.specs.Search.{Finds}
use Rattle.hg_relevant.proofs.search.Search.find_prunes.Given as goal

abbrev pub invariant-loop-place : goal.invariant-loop-place
invariant-loop-place l = Finds (λ i. Contains (take l.place-index l.places) i × IsAt IsPrune l.markers i)
    l.fn.self l.self
