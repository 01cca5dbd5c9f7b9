use Rattle.std.proofs.Common.{◌≡◌, Option, [], drop}
use Rattle.std.specs.Io.KnownBytes.{Appends}
use Rattle.hg_show.specs.Printing.{AreLines, IsMarkerText, Text}
use Rattle.hg_show.proofs.store.print_markers.Given as goal

-- with the lines of the markers that are left, what is printed is the lines of all of them
abbrev pub invariant-loop-marker : goal.invariant-loop-marker
invariant-loop-marker g l = record {
  printed : (rest : Text) (holds : Option Text) → AreLines IsMarkerText (drop l.marker-index l.markers) rest
      → Appends (g.W.Write.contents l.writer) holds rest
      → (text : Text) × AreLines IsMarkerText l.markers text × Appends (g.W.Write.contents l.initial.writer) holds text;
  empty : l.line.items ≡ [];
}
