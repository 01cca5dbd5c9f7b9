use Rattle.std.proofs.Common.{◌≡◌, ◌∷◌, ◌++◌, take}
use Rattle.std.specs.List.{flat_map}
use Rattle.hg_marker.specs.Grammar.{spelling}
use Rattle.hg_obsstore.proofs.format.write_markers.Given as goal

abbrev pub invariant-loop-marker : goal.invariant-loop-marker
invariant-loop-marker l = l.out.items ≡ l.fn.out.items ++ (0 ∷ flat_map spelling (take l.marker-index l.markers))
