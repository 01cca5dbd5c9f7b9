use Rattle.std.proofs.Common.{map, take}
use Rattle.hg_rewrite.specs.Refusals.{NoneApplies, unknown}
use Rattle.hg_rewrite.proofs.check.check_held.Given as goal

abbrev pub invariant-loop-node : goal.invariant-loop-node
invariant-loop-node l = NoneApplies (map (unknown l.replica.history) (take l.node-index l.nodes))
