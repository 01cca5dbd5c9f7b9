use Rattle.std.proofs.Common.{◌<◌}
use Rattle.hg_obsstore.specs.Markers.{IsAt}
use Rattle.hg_obsstore.specs.Places.{ListsAll}
use Rattle.hg_replica.specs.Content.{content_of}
use Rattle.hg_replica.specs.Evolution.{IsMarker}
use Rattle.hg_message.proofs.finding.marker_places.Given as goal

abbrev pub invariant-loop-place : goal.invariant-loop-place
invariant-loop-place l =
    ListsAll (λ i. (i < l.place) × IsAt (IsMarker (content_of l.replica)) l.replica.markers i) l.found.items
