use Rattle.std.proofs.Common.{◌≡◌, length}
use Rattle.hgfleet.proofs.trying.messages_of.Given as goal

abbrev pub invariant-loop-index : goal.invariant-loop-index
invariant-loop-index l = length l.messages.items ≡ l.index
