use Rattle.std.proofs.Common.{◌≡◌, ◌↔◌, ℕ, length, slice_get, Some}
use Rattle.hg_graph.specs.declared.graph.ParentPlaces.{ParentPlaces}
use Rattle.hg_graph.specs.Places.{IsParentPlace}
use Rattle.hg_discovery.specs.Under.{IsOneOf}
use Rattle.hg_discovery.proofs.start.parents_of.Given as goal

abbrev pub invariant-loop-place : goal.invariant-loop-place
invariant-loop-place l = record {
  len : length l.parents.items ≡ l.place;
  each : (j : ℕ) (p : ParentPlaces)
      → slice_get l.parents.items j ≡ Some p → (k : ℕ) → IsOneOf p k ↔ IsParentPlace l.graph j k;
}
