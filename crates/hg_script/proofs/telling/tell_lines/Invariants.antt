use Rattle.std.proofs.Common.{◌+◌, ◌≤◌, length}
use Rattle.std.specs.Str.Lines.{lines}
use Rattle.hg_script.proofs.EndingLemmas.{GoesOn}
use Rattle.hg_script.proofs.telling.tell_lines.Given as goal

abbrev pub invariant-loop-rest : goal.invariant-loop-rest
invariant-loop-rest g l = record {
  goes : GoesOn l.notes l.initial.fleet (lines l.text) (g.W.Write.contents l.initial.writer) (l.number + 1) l.fleet
      (lines l.rest) (g.W.Write.contents l.writer) l.refused;
  counted : l.number + length l.rest ≤ length l.text;
  few : l.refused ≤ l.number + l.number;
}

abbrev pub decreases-loop-rest : goal.decreases-loop-rest
decreases-loop-rest g l = length l.rest
