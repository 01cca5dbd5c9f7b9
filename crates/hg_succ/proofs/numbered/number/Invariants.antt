use Rattle.std.proofs.Common.{◌≤◌, ◌-◌, ◌^◌, length, Contains}
use Rattle.hg_changeset.specs.declared.node.Node.{Node}
use Rattle.hg_replica.specs.Content.{content_of}
use Rattle.hg_succ.specs.Rows.{rows_of}
use Rattle.hg_succ.specs.Numbered.{AreRows}
use Rattle.hg_succ.proofs.numbered.number.Given as goal

abbrev pub invariant-rows : goal.invariant-rows
invariant-rows l = record {
  first : (n : Node) → Contains l.fn.roots.keys n → Contains l.nodes.keys n;
  short : length l.rows.items ≤ length l.nodes.keys;
  exact : AreRows (content_of l.replica) l.nodes.keys (rows_of l.rows.items);
}

abbrev pub decreases-rows : goal.decreases-rows
decreases-rows l = 2 ^ 64 - length l.rows.items
