use Rattle.std.proofs.Common.{map, take}
use Rattle.hg_rewrite.specs.Refusals.{NoneApplies, entry_refused}
use Rattle.hg_rewrite.proofs.check.check_entries.Given as goal

abbrev pub invariant-loop-entry : goal.invariant-loop-entry
invariant-loop-entry l = NoneApplies (map entry_refused (take l.entry-index l.entries))
