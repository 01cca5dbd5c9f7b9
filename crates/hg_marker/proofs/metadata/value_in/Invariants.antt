use Rattle.std.proofs.Common.{◌≡◌}
use Rattle.std.specs.FinMap.{find}
use Rattle.hg_marker.specs.Texts.{bytes_cmp}
use Rattle.hg_marker.proofs.metadata.value_in.Given as goal

abbrev pub invariant-loop-found : goal.invariant-loop-found
invariant-loop-found l = find bytes_cmp l.key l.found-iterator ≡ find bytes_cmp l.key l.fn.entries
