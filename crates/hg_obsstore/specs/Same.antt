-- Stores are equal where they hold the same markers in the same order: the test that `==` makes decides it.
use Rattle.std.specs.Prelude.{◌≡◌, List, Bool}
use Rattle.std.specs.Bool.{Decides}
use Rattle.std.specs.Cmp.{IsEquivalence, decided}
use Rattle.std.specs.Cmp.Lexicographic.{pointwise, pointwise_decides}
use Rattle.hg_marker.specs.Fields.{Fields}
use Rattle.hg_marker.specs.Same.{same_fields, fields_decides}

-- the same markers, in the same order
abbrev pub same_markers : List Fields → List Fields → Bool
same_markers = pointwise same_fields

pub markers_decides : (ms ns : List Fields) → Decides (same_markers ms ns) (ms ≡ ns)
markers_decides = pointwise_decides fields_decides

pub markers_equivalence : IsEquivalence same_markers
markers_equivalence = decided same_markers markers_decides
