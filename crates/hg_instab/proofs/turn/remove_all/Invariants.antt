use Rattle.std.proofs.Common.{◌↔◌, Contains, take}
use Rattle.std.specs.List.Sorted.{IsStrictlySortedBy}
use Rattle.hg_changeset.specs.declared.node.Node.{Node}
use Rattle.hg_changeset.specs.Node.{node_cmp}
use Rattle.hg_instab.proofs.turn.remove_all.Given as goal

abbrev pub invariant-loop-node : goal.invariant-loop-node
invariant-loop-node l = record {
  ordered : IsStrictlySortedBy node_cmp l.set.keys;
  members : (n : Node) → Contains l.set.keys n
      ↔ (Contains l.fn.set.keys n × ¬ (Contains (take l.node-index l.nodes) n));
}
