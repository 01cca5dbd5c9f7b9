use Rattle.std.proofs.Common.{◌≡◌, take}
use Rattle.hg_join_tests.specs.Quotes.{told, quotes_of, bytes_of}
use Rattle.hg_join_tests.proofs.prices.bytes_of_quotes.Given as goal

abbrev pub invariant-loop-item : goal.invariant-loop-item
invariant-loop-item l = l.bytes.items ≡ bytes_of (quotes_of (told l.prices) (take l.item-index l.items))
