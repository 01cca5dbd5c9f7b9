use Rattle.std.proofs.Common.{◌≡◌, ℕ, take, Contains}
use Rattle.hg_changeset.specs.declared.node.Node.{Node}
use Rattle.hg_succ.specs.Rows.{At}
use Rattle.hg_succ.proofs.ranges.Ranges.note_overlap.Given as goal

abbrev pub invariant-loop-successor : goal.invariant-loop-successor
invariant-loop-successor l = record {
  ranges : l.self.ranges.items ≡ l.initial.self.ranges.items;
  overlapping : l.self.overlapping.keys ≡ l.initial.self.overlapping.keys;
  starts : (j : ℕ) (y : Node) → Contains (take l.successor-index l.row) j → At l.nodes.keys j y
      → Contains l.self.starts.keys y;
  kept : (y : Node) → Contains l.initial.self.starts.keys y → Contains l.self.starts.keys y;
}
