use Rattle.std.proofs.Common.{◌≡◌, Option, [], drop}
use Rattle.std.specs.Io.KnownBytes.{Appends}
use Rattle.hg_show.specs.Printing.{AreLines, IsBoundText, Text}
use Rattle.hg_show.proofs.message.print_bounds.Given as goal

-- with the lines of those that are left, what is printed is the lines of all of them
abbrev pub invariant-loop-node : goal.invariant-loop-node
invariant-loop-node g l = record {
  printed : (rest : Text) (holds : Option Text) → AreLines IsBoundText (drop l.node-index l.bounds) rest
      → Appends (g.W.Write.contents l.writer) holds rest
      → (text : Text) × AreLines IsBoundText l.bounds text × Appends (g.W.Write.contents l.initial.writer) holds text;
  empty : l.line.items ≡ [];
}
