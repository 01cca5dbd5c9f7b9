use Rattle.std.proofs.Common.{◌≡◌, ◌++◌}
use Rattle.hg_show.specs.Printing.{separated}
use Rattle.hg_show.proofs.marker.push_entries.Given as goal

abbrev pub invariant-loop-key : goal.invariant-loop-key
invariant-loop-key l =
    l.line.items ++ separated l.separator l.key-iterator ≡ l.initial.line.items ++ separated l.initial.separator
    l.initial.key-iterator
