use Rattle.std.proofs.Common.{◌≡◌, Option, [], drop}
use Rattle.hg_line.specs.Commands.{Text}
use Rattle.hg_line.specs.Outputs.{Grows, Printed}
use Rattle.hg_line.specs.Reports.{AreRowLines, row_values}
use Rattle.hg_line.proofs.report.print_rows.Given as goal

-- with the lines of the rows that are left, what is printed is the lines of all of them
abbrev pub invariant-loop-label : goal.invariant-loop-label
invariant-loop-label g l = record {
  printed : (rest : Text) (holds : Option Text) → AreRowLines l.kept (row_values (drop l.label-index l.rows)) rest
      → Printed (g.W.Write.contents l.writer) rest holds
      → (text : Text) × AreRowLines l.kept (row_values l.rows) text
      × Printed (g.W.Write.contents l.initial.writer) text holds;
  empty : l.line.items ≡ [];
  grew : Grows (g.W.Write.contents l.initial.writer) (g.W.Write.contents l.writer);
}
