use Rattle.std.proofs.Common.{◌≡◌, ◌≤◌, drop, take}
use Rattle.hg_graph.specs.Graph.{nodes}
use Rattle.hg_history.proofs.absorb.nodes_from.Given as goal

abbrev pub invariant-loop-place : goal.invariant-loop-place
invariant-loop-place l = (l.from ≤ l.place) × (l.found.items ≡ drop l.from (take l.place (nodes l.graph)))
