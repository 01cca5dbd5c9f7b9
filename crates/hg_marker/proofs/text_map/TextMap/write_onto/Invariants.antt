use Rattle.std.proofs.Common.{◌≡◌, ◌++◌, map}
use Rattle.std.specs.List.{join_with_byte}
use Rattle.hg_marker.specs.Metadata.{piece}
use Rattle.hg_marker.specs.Texts.{entry_bytes}
use Rattle.hg_marker.proofs.WritingLemmas.{unwritten}
use Rattle.hg_marker.proofs.text_map.TextMap.write_onto.Given as goal

abbrev pub invariant-loop-key : goal.invariant-loop-key
invariant-loop-key l =
    l.out.items ++ unwritten l.first (entry_bytes l.key-iterator) ≡ l.fn.out.items
    ++ join_with_byte 0 (map piece (entry_bytes l.initial.key-iterator))
