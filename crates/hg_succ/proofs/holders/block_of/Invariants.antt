use Rattle.std.proofs.Common.{◌≡◌, length}
use Rattle.hg_succ.specs.Rows.{rows_of}
use Rattle.hg_succ.proofs.HolderLemmas.{IsBlockBefore}
use Rattle.hg_succ.proofs.holders.block_of.Given as goal

abbrev pub invariant-loop-bit : goal.invariant-loop-bit
invariant-loop-bit l = record {
  long : length l.words.items ≡ l.count;
  block : IsBlockBefore (rows_of l.rows) l.first l.bit l.words.items;
}
