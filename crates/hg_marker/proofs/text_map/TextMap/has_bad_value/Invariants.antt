use Rattle.std.proofs.Common.{◌≡◌}
use Rattle.hg_marker.specs.Texts.{entry_bytes}
use Rattle.hg_marker.specs.Making.{has_bad_value}
use Rattle.hg_marker.proofs.text_map.TextMap.has_bad_value.Given as goal

abbrev pub invariant-loop-value : goal.invariant-loop-value
invariant-loop-value l =
    (goal.iterator-loop-value).can_next l.value-iterator ×
    (goal.iterator-loop-value).is_finite l.value-iterator ×
    (has_bad_value (entry_bytes l.value-iterator) ≡ has_bad_value (entry_bytes l.initial.value-iterator))
