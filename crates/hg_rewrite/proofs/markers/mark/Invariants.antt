use Rattle.std.proofs.Common.{◌≡◌, map, take}
use Rattle.hg_marker.specs.Operation.{note_texts}
use Rattle.hg_rewrite.specs.Parts.{marker}
use Rattle.hg_rewrite.specs.Refusals.{NoneApplies, marker_refused}
use Rattle.hg_rewrite.proofs.markers.mark.Given as goal

abbrev pub invariant-loop-node : goal.invariant-loop-node
invariant-loop-node l =
    NoneApplies (map (λ node. marker_refused (marker (note_texts l.note) l.ids node)) (take l.node-index l.rewritten))
    × (l.markers.items ≡ map (marker (note_texts l.note) l.ids) (take l.node-index l.rewritten))
