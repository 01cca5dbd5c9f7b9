use Rattle.std.proofs.Common.{◌<◌}
use Rattle.hg_graph.specs.Marks.{IsMarked}
use Rattle.hg_obsstore.specs.Places.{ListsAll}
use Rattle.hg_message.proofs.marks.marked_but.Given as goal

abbrev pub invariant-loop-place : goal.invariant-loop-place
invariant-loop-place l =
    ListsAll (λ k. (k < l.place) × (IsMarked 0 l.marks k × ¬ (IsMarked 0 l.but k))) l.found.items
