use Rattle.std.proofs.Common.{◌≡◌, map, take}
use Rattle.hg_line.specs.Entries.{entry_of}
use Rattle.hg_line.proofs.operation.Names.entries.Given as goal

abbrev pub invariant-loop-label : goal.invariant-loop-label
invariant-loop-label l = l.entries.items ≡ map (λ w. entry_of w.now) (take l.label-index l.labels)
