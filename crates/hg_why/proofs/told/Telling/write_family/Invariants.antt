use Rattle.std.specs.Io.KnownBytes.{Appends}
use Rattle.hg_log.specs.Drawings.{Text}
use Rattle.hg_why.specs.Blocks.{AreLinesOf}
use Rattle.hg_why.proofs.told.Telling.write_family.Given as goal

abbrev pub invariant-loop-set : goal.invariant-loop-set
invariant-loop-set g l =
    (text : Text) × AreLinesOf l.predecessor text
    × Appends (g.W.Write.contents l.initial.writer) (g.W.Write.contents l.writer) text
