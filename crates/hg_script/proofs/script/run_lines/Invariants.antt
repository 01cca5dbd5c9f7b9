use Rattle.std.proofs.Common.{ℕ, ◌+◌, ◌≤◌, length}
use Rattle.std.specs.Str.Lines.{lines}
use Rattle.hg_line.specs.Printing.{no_notes}
use Rattle.hg_script.proofs.EndingLemmas.{GoesOn}
use Rattle.hg_script.proofs.script.run_lines.Given as goal

abbrev pub invariant-loop-rest : goal.invariant-loop-rest
invariant-loop-rest g l = record {
  goes : (refused : ℕ) × GoesOn no_notes l.initial.fleet (lines l.text) (g.W.Write.contents l.initial.writer)
      (l.number + 1) l.fleet (lines l.rest) (g.W.Write.contents l.writer) refused;
  counted : l.number + length l.rest ≤ length l.text;
}

abbrev pub decreases-loop-rest : goal.decreases-loop-rest
decreases-loop-rest g l = length l.rest
