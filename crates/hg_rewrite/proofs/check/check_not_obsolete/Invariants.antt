use Rattle.std.proofs.Common.{map, take}
use Rattle.hg_rewrite.specs.Refusals.{NoneApplies, is_obsolete}
use Rattle.hg_rewrite.proofs.check.check_not_obsolete.Given as goal

abbrev pub invariant-loop-node : goal.invariant-loop-node
invariant-loop-node l = NoneApplies (map (is_obsolete l.replica) (take l.node-index l.nodes))
