use Rattle.std.proofs.Common.{take}
use Rattle.hgfleet.specs.Terminal.{AreFiles}
use Rattle.hgfleet.proofs.terminal.are_files.Given as goal

abbrev pub invariant-loop-name : goal.invariant-loop-name
invariant-loop-name l = AreFiles (take l.name-index l.names)
