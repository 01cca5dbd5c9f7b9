use Rattle.std.proofs.Common.{◌≡◌, map, take}
use Rattle.hgfleet.specs.Arguments.{texts_of}
use Rattle.hgfleet.proofs.arguments.copies_of.Given as goal

abbrev pub invariant-loop-name : goal.invariant-loop-name
invariant-loop-name l = texts_of l.copies.items ≡ map (λ s. s.now) (take l.name-index l.names)
