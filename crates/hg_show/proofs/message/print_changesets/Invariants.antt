use Rattle.std.proofs.Common.{◌≡◌, Option, [], drop}
use Rattle.std.specs.Io.KnownBytes.{Appends}
use Rattle.hg_show.specs.Printing.{AreLines, IsChangesetText, Text}
use Rattle.hg_show.proofs.message.print_changesets.Given as goal

-- with the lines of those that are left, what is printed is the lines of all of them
abbrev pub invariant-loop-changeset : goal.invariant-loop-changeset
invariant-loop-changeset g l = record {
  printed : (rest : Text) (holds : Option Text) → AreLines IsChangesetText (drop l.changeset-index l.changesets) rest
      → Appends (g.W.Write.contents l.writer) holds rest
      → (text : Text) × AreLines IsChangesetText l.changesets text
      × Appends (g.W.Write.contents l.initial.writer) holds text;
  empty : l.line.items ≡ [];
}
