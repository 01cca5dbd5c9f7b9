use Rattle.std.proofs.Common.{◌≡◌, ◌*◌, List, ℕ, length}
use Rattle.hg_succ.specs.Rows.{At, rows_of}
use Rattle.hg_succ.specs.Holders.{IsBlock}
use Rattle.hg_succ.proofs.holders.blocks_of.Given as goal

abbrev pub invariant-loop-block : goal.invariant-loop-block
invariant-loop-block l = record {
  many : length l.blocks.items ≡ l.block;
  exact : (b : ℕ) (words : List ℕ) → At (rows_of l.blocks.items) b words
      → IsBlock (rows_of l.rows) (b * 64) words;
  long : (b : ℕ) (words : List ℕ) → At (rows_of l.blocks.items) b words → length words ≡ l.count;
}
