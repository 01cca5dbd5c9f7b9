use Rattle.std.proofs.Common.{◌≡◌}
use Rattle.hg_marker.specs.Texts.{entry_bytes}
use Rattle.hg_marker.specs.Making.{has_bad_key}
use Rattle.hg_marker.proofs.text_map.TextMap.has_bad_key.Given as goal

abbrev pub invariant-loop-key : goal.invariant-loop-key
invariant-loop-key l =
    (goal.iterator-loop-key).can_next l.key-iterator ×
    (goal.iterator-loop-key).is_finite l.key-iterator ×
    (has_bad_key (entry_bytes l.key-iterator) ≡ has_bad_key (entry_bytes l.initial.key-iterator))
