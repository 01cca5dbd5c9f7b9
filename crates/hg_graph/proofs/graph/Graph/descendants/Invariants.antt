use Rattle.std.proofs.Common.{ℕ, ◌-◌, length}
use Rattle.hg_graph.proofs.WalkLemmas.{IsWalked}
use Rattle.hg_graph.proofs.graph.Graph.descendants.Given as goal

abbrev pub invariant-loop-place : goal.invariant-loop-place
invariant-loop-place l = (b : ℕ) × IsWalked l.self l.nodes l.waiting l.found.items b

abbrev pub decreases-loop-place : goal.decreases-loop-place
decreases-loop-place l = length l.self - length l.found.items
