use Rattle.std.proofs.Common.{All, IsSome, string_bytes, take}
use Rattle.hg_line.specs.Lines.{node_named}
use Rattle.hgfleet.proofs.commands.unknown_name.Given as goal

abbrev pub invariant-loop-name : goal.invariant-loop-name
invariant-loop-name l = All (λ name. IsSome (node_named l.fleet (string_bytes name))) (take l.name-index l.names)
