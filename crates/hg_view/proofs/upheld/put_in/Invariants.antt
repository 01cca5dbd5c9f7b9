use Rattle.std.proofs.Common.{◌↔◌, ◌⊎◌, Contains, take}
use Rattle.hg_changeset.specs.declared.node.Node.{Node}
use Rattle.hg_view.proofs.upheld.put_in.Given as goal

abbrev pub invariant-loop-node : goal.invariant-loop-node
invariant-loop-node l = (n : Node) → Contains l.upheld.keys n
    ↔ (Contains l.fn.upheld.keys n ⊎ Contains (take l.node-index l.found.keys) n)
