use Rattle.std.proofs.Common.{◌≡◌, Option, [], drop}
use Rattle.std.specs.Io.KnownBytes.{Appends}
use Rattle.hg_show.specs.Printing.{AreLines, IsRootText, Text}
use Rattle.hg_show.proofs.roots.print_roots.Given as goal

-- with the lines of those that are left, what is printed is the lines of all of them
abbrev pub invariant-loop-phase : goal.invariant-loop-phase
invariant-loop-phase g l = record {
  printed : (rest : Text) (holds : Option Text) → AreLines IsRootText (drop l.phase-index l.roots) rest
      → Appends (g.W.Write.contents l.writer) holds rest
      → (text : Text) × AreLines IsRootText l.roots text × Appends (g.W.Write.contents l.initial.writer) holds text;
  empty : l.line.items ≡ [];
}
