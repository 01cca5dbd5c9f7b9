use Rattle.std.proofs.Common.{Option, drop, map}
use Rattle.std.specs.Io.KnownBytes.{Appends}
use Rattle.hg_log.specs.Drawings.{Text}
use Rattle.hgfleet.specs.Commands.{AreDrawn, AreDrawnBehind}
use Rattle.hgfleet.proofs.commands.draw_all.Given as goal

-- with the drawings of the names that are left, what is written is the drawings of all of them
abbrev pub invariant-loop-name : goal.invariant-loop-name
invariant-loop-name g l =
    (rest : Text) (holds : Option Text)
    → AreDrawnBehind l.fleet l.drawing l.drawn.items (map (λ name. name.now) (drop l.name-index l.names)) rest
    → Appends (g.W.Write.contents l.writer) holds rest
    → (text : Text) × AreDrawn l.fleet l.drawing (map (λ name. name.now) l.names) text
    × Appends (g.W.Write.contents l.initial.writer) holds text
