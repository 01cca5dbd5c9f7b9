use Rattle.std.proofs.Common.{take, length}
use Rattle.std.specs.List.{AllByRecursion}
use Rattle.hg_marker.specs.Fields.{Fields}
use Rattle.hg_marker.specs.Grammar.{IsSpelling, spelling}
use Rattle.hg_obsstore.specs.Spelling.{IsLength, store_spelling}
use Rattle.hg_obsstore.proofs.format.markers_len.Given as goal

abbrev pub invariant-loop-marker : goal.invariant-loop-marker
invariant-loop-marker l = IsLength l.len (length (store_spelling (take l.marker-index l.markers)))
    × AllByRecursion (λ (m : Fields). IsSpelling m (spelling m)) (take l.marker-index l.markers)
