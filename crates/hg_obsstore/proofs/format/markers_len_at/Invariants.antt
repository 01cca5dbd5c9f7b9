use Rattle.std.proofs.Common.{take, length}
use Rattle.std.specs.List.{AllByRecursion}
use Rattle.hg_marker.specs.Fields.{Fields}
use Rattle.hg_marker.specs.Grammar.{IsSpelling, spelling}
use Rattle.hg_obsstore.specs.Places.{picked}
use Rattle.hg_obsstore.specs.Spelling.{IsLength, store_spelling}
use Rattle.hg_obsstore.proofs.format.markers_len_at.Given as goal

abbrev pub invariant-loop-place : goal.invariant-loop-place
invariant-loop-place l = IsLength l.total (length (store_spelling (picked l.store (take l.place-index l.places))))
    × AllByRecursion (λ (m : Fields). IsSpelling m (spelling m)) (picked l.store (take l.place-index l.places))
