use Rattle.std.proofs.Common.{Contains, take}
use Rattle.hg_phases.specs.State.{changesets}
use Rattle.hg_view.specs.Common.{IsCommonAt}
use Rattle.hg_view.specs.Descent.{Finds, GoesOn}
use Rattle.hg_view.proofs.heads.visit_each.Given as goal

abbrev pub invariant-loop-place : goal.invariant-loop-place
invariant-loop-place l =
    GoesOn (changesets l.replica.history) (IsCommonAt l.replica l.other) (Contains (take l.place-index l.places))
    l.fn.waiting l.waiting
    × Finds (changesets l.replica.history) (IsCommonAt l.replica l.other) (Contains (take l.place-index l.places))
    l.fn.found.items l.found.items
