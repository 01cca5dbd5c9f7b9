use Rattle.std.proofs.Common.{◌≡◌, take}
use Rattle.hg_message.proofs.copies.copy_markers.Given as goal

abbrev pub invariant-loop-marker : goal.invariant-loop-marker
invariant-loop-marker l = l.copies.items ≡ take l.marker-index l.markers
