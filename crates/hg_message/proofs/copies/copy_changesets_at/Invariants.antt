use Rattle.std.proofs.Common.{◌≡◌, take}
use Rattle.hg_obsstore.specs.Places.{picked}
use Rattle.hg_message.proofs.copies.copy_changesets_at.Given as goal

abbrev pub invariant-loop-place : goal.invariant-loop-place
invariant-loop-place l = l.copies.items ≡ picked l.graph (take l.place-index l.places)
