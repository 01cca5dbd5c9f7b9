use Rattle.std.proofs.Common.{ℕ, List, ◌++◌, Contains}
use Rattle.hg_changeset.specs.declared.node.Node.{Node}
use Rattle.hg_phases.specs.declared.phase.Phase.{Phase}
use Rattle.hg_phases.proofs.RootPlaceLemmas.{ListsRoots}
use Rattle.hg_phases.proofs.root_places.roots_listed.Given as goal

abbrev pub invariant-loop-place : goal.invariant-loop-place
invariant-loop-place l =
    ((rest : List (Phase × Node)) → ListsRoots l.graph l.phases l.place-iterator rest
    → ListsRoots l.graph l.phases l.initial.place-iterator (l.listed.items ++ rest))
    × ((p : ℕ) → Contains l.place-iterator p → Contains l.places.keys p)
