use Rattle.std.proofs.Common.{Option, drop}
use Rattle.std.specs.Io.KnownBytes.{Appends}
use Rattle.hg_log.specs.Drawings.{Text}
use Rattle.hgfleet.specs.Arguments.{texts_of}
use Rattle.hgfleet.specs.Commands.{AreFates}
use Rattle.hgfleet.proofs.fates.write_fates.Given as goal

-- with the lines of the labels that are left, what is written is the lines of all of them
abbrev pub invariant-loop-label : goal.invariant-loop-label
invariant-loop-label g l =
    (rest : Text) (holds : Option Text) → AreFates l.fleet (texts_of (drop l.label-index l.labels)) rest
    → Appends (g.W.Write.contents l.writer) holds rest
    → (text : Text) × AreFates l.fleet (texts_of l.labels) text
    × Appends (g.W.Write.contents l.initial.writer) holds text
