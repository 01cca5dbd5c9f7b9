use Rattle.std.proofs.Common.{◌*◌}
use Rattle.hg_succ.specs.Rows.{rows_of}
use Rattle.hg_succ.proofs.HolderLemmas.{IsWithinNoneBefore}
use Rattle.hg_succ.proofs.holders.is_within_another.Given as goal

abbrev pub invariant-loop-block : goal.invariant-loop-block
invariant-loop-block l = IsWithinNoneBefore (rows_of l.rows) l.place (l.block * 64)
