use Rattle.std.proofs.Common.{◌≤◌}
use Rattle.hg_changeset.proofs.LengthLemmas.{IsCounted}
use Rattle.hg_changeset.proofs.description.description_len.Given as goal

abbrev pub invariant-loop-i : goal.invariant-loop-i
invariant-loop-i l = record {
  within : l.start ≤ l.i;
  counted : IsCounted l.desc l.start l.i l.joined;
}
