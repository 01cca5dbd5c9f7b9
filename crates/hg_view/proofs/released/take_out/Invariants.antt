use Rattle.std.proofs.Common.{take, Contains, ◌↔◌}
use Rattle.hg_changeset.specs.declared.node.Node.{Node}
use Rattle.hg_view.specs.Released.{IsLeft}
use Rattle.hg_view.proofs.released.take_out.Given as goal

abbrev pub invariant-loop-node : goal.invariant-loop-node
invariant-loop-node l = (n : Node) → Contains l.upheld.keys n
    ↔ IsLeft l.fn.upheld.keys (take l.node-index l.gone.keys) n
