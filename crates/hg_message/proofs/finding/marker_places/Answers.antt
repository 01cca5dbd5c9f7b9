use Rattle.std.proofs.Common.{◌≡◌, ◌∙◌, length, ap, arith}
use Rattle.std.proofs.lemmas.Option.{slice_get_within}
use Rattle.hg_changeset.proofs.ListLemmas.{slice_get_some}
use Rattle.hg_graph.proofs.GraphLemmas.{Contains-from_place}
use Rattle.hg_obsstore.specs.Markers.{IsAt}
use Rattle.hg_obsstore.proofs.PlaceLemmas.{one_more, all_listed}
use Rattle.hg_replica.specs.Content.{content_of}
use Rattle.hg_replica.specs.Evolution.{IsMarker}
use Rattle.hg_replica.proofs.MarkerLemmas.{holds-from}
use Rattle.hg_message.proofs.finding.marker_places.Goals as goal

pub loop-place-preserved : goal.loop-place-preserved
loop-place-preserved c =
    let s = c.args.replica.now in
    let i = c.loop-place.place in
    let same : length c.markers-markers.result.now ≡ length s.markers =
    ap length (c.markers-markers.ensures.markers ∙ c.store.ensures) in
    let there = slice_get_some s.markers i (omega (arith, c.loop-place-test.true, same)) in
    let held = holds-from s.markers there.0 (Contains-from_place s.markers i there.0 there.1) in
    rw c.in_ok-push.ensures.items (one_more (IsAt (IsMarker (content_of s)) s.markers) c.loop-place.found.items i
    c.loop-place.invariant (there.0, there.1, held))

pub returns : goal.returns
returns c =
    let s = c.args.replica.now in
    let same : length c.markers-markers.result.now ≡ length s.markers =
    ap length (c.markers-markers.ensures.markers ∙ c.store.ensures) in
    all_listed (IsAt (IsMarker (content_of s)) s.markers) c.loop-place.found.items c.loop-place.place
    c.loop-place.invariant
    (λ k q. omega (arith, slice_get_within s.markers k q.0 q.1, same, c.loop-place-test.false))
