use Rattle.std.proofs.Common.{◌≡◌, take}
use Rattle.hg_succ.specs.Answer.{sets_of}
use Rattle.hg_succ.specs.Unions.{products}
use Rattle.hg_succ.proofs.unions.products.Given as goal

abbrev pub invariant-loop-first : goal.invariant-loop-first
invariant-loop-first l = sets_of l.found.items ≡ products (sets_of (take l.first-index l.firsts)) (sets_of l.seconds)
