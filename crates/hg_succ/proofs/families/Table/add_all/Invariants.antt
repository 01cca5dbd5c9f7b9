use Rattle.std.proofs.Common.{◌≡◌, ◌<◌, ℕ}
use Rattle.hg_changeset.specs.declared.node.Node.{Node}
use Rattle.hg_replica.specs.Content.{content_of}
use Rattle.hg_succ.specs.declared.search.Closed.{Closed}
use Rattle.hg_succ.specs.Rows.{At}
use Rattle.hg_succ.specs.Cover.{IsTable, HasEntry, IsNotCounted}
use Rattle.hg_succ.specs.Plan.{Lists}
use Rattle.hg_succ.proofs.families.Table.add_all.Given as goal

abbrev pub invariant-loop-closed : goal.invariant-loop-closed
invariant-loop-closed l = record {
  table : IsTable (content_of l.replica) l.self;
  nodes : l.self.nodes.keys ≡ l.initial.self.nodes.keys;
  done : (k : ℕ) (e : Closed) (x : Node) → k < l.closed-index → At l.order k e → At l.initial.self.nodes.keys e.node x
      → HasEntry l.self x;
  kept : (n : Node) → Lists l.plan n → IsNotCounted l.self n;
}
