use Rattle.std.proofs.Common.{Option, drop, map}
use Rattle.std.specs.Io.KnownBytes.{Appends}
use Rattle.hg_log.specs.Drawings.{ArePieces, Text}
use Rattle.hgfleet.specs.Commands.{IsFateAt}
use Rattle.hgfleet.proofs.fates.write_each_fate.Given as goal

-- with the lines of the names that are left, what is written is the lines of all of them
abbrev pub invariant-loop-name : goal.invariant-loop-name
invariant-loop-name g l =
    (rest : Text) (holds : Option Text)
    → ArePieces (IsFateAt l.fleet l.label l.node) (map (λ name. name.now) (drop l.name-index l.names)) rest
    → Appends (g.W.Write.contents l.writer) holds rest
    → (text : Text) × ArePieces (IsFateAt l.fleet l.label l.node) (map (λ name. name.now) l.names) text
    × Appends (g.W.Write.contents l.initial.writer) holds text
