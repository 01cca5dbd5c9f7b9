use Rattle.std.proofs.Common.{◌≡◌, ◌++◌, map, take}
use Rattle.hg_succ.specs.Answer.{sets_of}
use Rattle.hg_succ.proofs.unions.push_unions.Given as goal

abbrev pub invariant-loop-second : goal.invariant-loop-second
invariant-loop-second l = sets_of l.found.items ≡ sets_of l.initial.found.items ++ map (λ second. l.first ++ second)
    (sets_of (take l.second-index l.seconds))
