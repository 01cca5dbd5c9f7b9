use Rattle.std.proofs.Common.{◌≡◌, length}
use Rattle.hgfleet.proofs.trying.read_files.Given as goal

abbrev pub invariant-loop-name : goal.invariant-loop-name
invariant-loop-name g l = length l.contents.items ≡ l.name-index
