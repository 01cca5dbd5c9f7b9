use Rattle.std.proofs.Common.{◌+◌, ◌≤◌, length}
use Rattle.std.specs.Str.Lines.{lines}
use Rattle.hg_expect.specs.Expectations.{texts}
use Rattle.hg_script.proofs.ByLineLemmas.{PrintsOn}
use Rattle.hg_script.proofs.by_line.outputs_in.Given as goal

abbrev pub invariant-loop-rest : goal.invariant-loop-rest
invariant-loop-rest l = record {
  prints : PrintsOn l.initial.fleet (lines l.text) (l.number + 1) l.fleet (lines l.rest)
      (texts l.outputs.items);
  counted : l.number + length l.rest ≤ length l.text;
}

abbrev pub decreases-loop-rest : goal.decreases-loop-rest
decreases-loop-rest l = length l.rest
