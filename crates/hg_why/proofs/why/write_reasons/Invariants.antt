use Rattle.std.proofs.Common.{take}
use Rattle.std.specs.Io.KnownBytes.{Appends}
use Rattle.hg_log.specs.Drawings.{ArePieces, Text}
use Rattle.hg_why.specs.Blocks.{IsReasonText}
use Rattle.hg_why.proofs.why.write_reasons.Given as goal

abbrev pub invariant-loop-index : goal.invariant-loop-index
invariant-loop-index g l =
    (text : Text) × ArePieces IsReasonText (take l.index l.reasons) text
    × Appends (g.W.Write.contents l.initial.writer) (g.W.Write.contents l.writer) text
