use Rattle.std.proofs.Common.{◌≡◌, take}
use Rattle.hg_graph.proofs.graph.Graph.copy.Given as goal

abbrev pub invariant-loop-place : goal.invariant-loop-place
invariant-loop-place l = l.graph ≡ take l.place l.self
