use Rattle.std.proofs.Common.{◌≡◌, ◌++◌, length}
use Rattle.hg_expect.specs.Expectations.{marked}
use Rattle.hg_expect.specs.Filled.{under}
use Rattle.hg_expect.proofs.filling.push_marked.Given as goal

abbrev pub invariant-loop-rest : goal.invariant-loop-rest
invariant-loop-rest l =
    l.out.items ++ under l.front (marked l.rest) ≡ l.initial.out.items ++ under l.front (marked l.output)

abbrev pub decreases-loop-rest : goal.decreases-loop-rest
decreases-loop-rest l = length l.rest
