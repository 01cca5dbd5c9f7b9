use Rattle.std.proofs.Common.{◌≡◌, ◌++◌, length}
use Rattle.hg_join_tests.specs.Quotes.{bytes_of}
use Rattle.hg_join_tests.proofs.prices.PricesActor.read.Given as goal

abbrev pub invariant-loop-left : goal.invariant-loop-left
invariant-loop-left l = l.bytes ≡ bytes_of l.pairs.items ++ l.left

abbrev pub decreases-loop-left : goal.decreases-loop-left
decreases-loop-left l = length l.left
