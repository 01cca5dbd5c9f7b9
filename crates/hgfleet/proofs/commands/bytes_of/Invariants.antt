use Rattle.std.proofs.Common.{◌≡◌, map, take}
use Rattle.hgfleet.specs.Arguments.{texts_of}
use Rattle.hgfleet.proofs.commands.bytes_of.Given as goal

abbrev pub invariant-loop-name : goal.invariant-loop-name
invariant-loop-name l = map (λ name. name.now) l.bytes.items ≡ texts_of (take l.name-index l.names)
