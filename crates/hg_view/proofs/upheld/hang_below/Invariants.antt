use Rattle.std.proofs.Common.{◌+◌, ◌-◌, ◌++◌, List, Contains, length}
use Rattle.hg_changeset.specs.declared.node.Node.{Node}
use Rattle.hg_graph.specs.Graph.{nodes}
use Rattle.hg_phases.specs.State.{changesets}
use Rattle.hg_history.specs.Content.{IsHeld}
use Rattle.hg_replica.specs.Content.{content_of}
use Rattle.hg_view.specs.Upheld.{AreDisjoint, IsUpholding}
use Rattle.hg_view.proofs.upheld.hang_below.Given as goal

abbrev pub invariant-loop-next : goal.invariant-loop-next
invariant-loop-next l = record {
  held : (n : Node) → Contains (l.upheld.keys ++ l.found.keys) n → IsHeld (content_of l.replica).0 n;
  apart : AreDisjoint l.fn.found.keys l.upheld.keys → AreDisjoint l.found.keys l.upheld.keys;
  upholds : (pins : List Node) → IsUpholding (content_of l.replica) pins l.upheld.keys
      (l.upheld.keys ++ l.fn.found.keys) (length l.upheld.keys)
      → IsUpholding (content_of l.replica) pins l.upheld.keys (l.upheld.keys ++ l.found.keys)
      (length l.upheld.keys + l.next);
}

abbrev pub decreases-loop-next : goal.decreases-loop-next
decreases-loop-next l = length (nodes (changesets l.replica.history)) - l.next
