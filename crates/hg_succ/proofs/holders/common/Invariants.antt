use Rattle.std.proofs.Common.{take}
use Rattle.hg_succ.specs.Holders.{IsCommon}
use Rattle.hg_succ.proofs.holders.common.Given as goal

abbrev pub invariant-loop-number : goal.invariant-loop-number
invariant-loop-number l = IsCommon l.words (take l.number-index l.row) l.common
