use Rattle.std.proofs.Common.{◌↔◌, ℕ, Contains, take}
use Rattle.hg_graph.specs.Places.{IsPlaceOfOne}
use Rattle.hg_graph.proofs.graph.Graph.places_of.Given as goal

abbrev pub invariant-loop-node : goal.invariant-loop-node
invariant-loop-node l = (k : ℕ) → Contains l.places.items k ↔ IsPlaceOfOne l.self (take l.node-index l.nodes) k
