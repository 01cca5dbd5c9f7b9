use Rattle.std.proofs.Common.{◌≡◌, ◌++◌, take}
use Rattle.hg_obsstore.specs.Places.{picked}
use Rattle.hg_obsstore.specs.Spelling.{store_spelling}
use Rattle.hg_obsstore.proofs.format.write_markers_at.Given as goal

abbrev pub invariant-loop-place : goal.invariant-loop-place
invariant-loop-place l = l.out.items ≡ l.fn.out.items ++ store_spelling (picked l.store (take l.place-index l.places))
