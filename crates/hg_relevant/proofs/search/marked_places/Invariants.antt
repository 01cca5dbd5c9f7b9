use Rattle.std.proofs.Common.{◌<◌}
use Rattle.hg_obsstore.specs.Places.{ListsAll}
use Rattle.hg_relevant.specs.Search.{IsMarked}
use Rattle.hg_relevant.proofs.search.marked_places.Given as goal

abbrev pub invariant-loop-place : goal.invariant-loop-place
invariant-loop-place l = ListsAll (λ i. (i < l.place) × IsMarked l.marks i) l.places.items
