use Rattle.std.proofs.Common.{◌≡◌, ◌≤◌, ◌++◌, drop, vec_capacity}
use Rattle.hg_marker.specs.Grammar.{ids}
use Rattle.hg_marker.proofs.format.push_ids.Given as goal

abbrev pub invariant-loop-node : goal.invariant-loop-node
invariant-loop-node l = (l.out.items ++ ids (drop l.node-index l.nodes) ≡ l.fn.out.items ++ ids l.nodes)
    × (vec_capacity l.fn.out ≤ vec_capacity l.out)
