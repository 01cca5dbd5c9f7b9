use Rattle.std.proofs.Common.{◌≡◌, take}
use Rattle.hg_succ.specs.Answer.{sets_of}
use Rattle.hg_succ.proofs.unions.copy_of.Given as goal

abbrev pub invariant-loop-set : goal.invariant-loop-set
invariant-loop-set l = sets_of l.copy.items ≡ sets_of (take l.set-index l.sets)
