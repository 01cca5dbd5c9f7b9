use Rattle.std.proofs.Common.{◌*◌, ◌%◌, arith, sym, subst}
use Rattle.std.proofs.lemmas.Nat.{one_shl}
use Rattle.hg_succ.specs.Holders.{IsOwnBit}
use Rattle.hg_succ.proofs.HolderLemmas.{own_here}
use Rattle.hg_succ.proofs.holders.own_bit.Goals as goal

pub returns-then-place-block : goal.returns-then-place-block
returns-then-place-block c = subst (IsOwnBit (c.args.block * 64) c.args.place)
    (sym (one_shl (c.args.place % 64) 64 (omega arith))) (own_here c.args.block c.args.place c.if-place-block.true)
