use Rattle.std.proofs.Common.{Option, drop}
use Rattle.std.specs.Io.KnownBytes.{Appends}
use Rattle.hg_log.specs.Drawings.{Text}
use Rattle.hg_preview.specs.Lines.{AreLinesOf}
use Rattle.hg_preview.proofs.answer.write_phases.Given as goal

-- with the lines of the changesets that are left, what is written is the lines of all of them
abbrev pub invariant-loop-node : goal.invariant-loop-node
invariant-loop-node g l =
    (rest : Text) (holds : Option Text) → AreLinesOf (drop l.node-index l.nodes) rest
    → Appends (g.W.Write.contents l.writer) holds rest
    → (text : Text) × AreLinesOf l.nodes text × Appends (g.W.Write.contents l.initial.writer) holds text
