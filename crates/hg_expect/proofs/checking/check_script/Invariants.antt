use Rattle.std.proofs.Common.{◌≡◌, ◌+◌, ◌≤◌, ◌++◌, [], length, count_by}
use Rattle.std.specs.Str.Lines.{lines}
use Rattle.hg_expect.specs.Expectations.{is_done, texts}
use Rattle.hg_expect.specs.Filled.{differing, filled, filled_text, hunks, under}
use Rattle.hg_expect.proofs.checking.check_script.Given as goal

abbrev pub invariant-loop-rest : goal.invariant-loop-rest
invariant-loop-rest l = record {
  filled : l.checked.filled.items ++ under [] (filled l.number (lines l.rest) (texts l.left))
      ≡ filled_text l.text (texts l.outputs);
  hunks : l.checked.hunks.items ++ hunks l.number l.place (lines l.rest) (texts l.left)
      ≡ hunks 1 1 (lines l.text) (texts l.outputs);
  differ : l.checked.differ + differing l.number (lines l.rest) (texts l.left)
      ≡ differing 1 (lines l.text) (texts l.outputs);
  lines : l.checked.lines ≡ count_by is_done (lines l.text);
  counted : l.number + length l.rest ≤ length l.text + 1;
  few : l.checked.differ + 1 ≤ l.number;
  placed : l.place ≤ length l.checked.filled.items + 1;
}

abbrev pub decreases-loop-rest : goal.decreases-loop-rest
decreases-loop-rest l = length l.rest
