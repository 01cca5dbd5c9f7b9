use Rattle.std.proofs.Common.{take}
use Rattle.hg_succ.specs.Answer.{sets_of}
use Rattle.hg_succ.specs.Rows.{rows_of}
use Rattle.hg_succ.specs.Holders.{AreNumberings}
use Rattle.hg_succ.proofs.holders.number_members.Given as goal

abbrev pub invariant-loop-set : goal.invariant-loop-set
invariant-loop-set l = AreNumberings (sets_of (take l.set-index l.sets)) l.nodes.keys (rows_of l.rows.items)
