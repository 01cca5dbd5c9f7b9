use Rattle.std.proofs.Common.{refl, sym, subst}
use Rattle.hg_obsstore.specs.Markers.{ArePlaces}
use Rattle.hg_phases.specs.State.{changesets}
use Rattle.hg_replica.specs.State.{ReplicaState}
use Rattle.hg_replica.specs.Content.{content_of}
use Rattle.hg_view.specs.Pins.{IsServedUnder}
use Rattle.hg_message.specs.declared.scope.Scope.TheVariants.{Served}
use Rattle.hg_message.specs.Offer.{AreHeld, AreOfferedBounds, IsNamedMarker, IsOutgoing}
use Rattle.hg_message.specs.Outgoing.{ArePlacesOf, AreServedHeads}
use Rattle.hg_message.proofs.OfferLemmas.{is-offer, picked-those, picked-length}
use Rattle.hg_message.proofs.outgoing.find_served.Goals as goal

pub served_outgoing-requires-clause-heads : goal.served_outgoing-requires-clause-heads
served_outgoing-requires-clause-heads c = subst (AreServedHeads c.args.kept.now) (sym c.deref.ensures.value)
    (record { exact = c.in_ok-heads.ensures.exact; covers = c.in_ok-heads.ensures.covers })

pub served_outgoing-requires-clause-common : goal.served_outgoing-requires-clause-common
served_outgoing-requires-clause-common c =
    subst (λ (s : ReplicaState). AreHeld (content_of s) c.args.common.now) c.requires.replica c.requires.common

pub served_bounds-requires : goal.served_bounds-requires
served_bounds-requires c = subst (AreServedHeads c.args.kept.now) (sym c.deref-2.ensures.value)
    (record { exact = c.in_ok-heads.ensures.exact; covers = c.in_ok-heads.ensures.covers })

pub invariant_of-result : goal.invariant_of-result
invariant_of-result c =
    let s = c.args.replica.now in
    let pins = c.args.kept.now.pins in
    let common = c.args.common.now in
    picked-length (IsOutgoing (content_of s) (IsServedUnder (content_of s) pins) common) (changesets s.history)
    c.in_ok-changesets.changesets.items
    (subst (λ (t : ReplicaState). ArePlacesOf (IsOutgoing (content_of t) (IsServedUnder (content_of t) pins) common)
    (changesets t.history) c.in_ok-changesets.changesets.items) (sym c.requires.replica) c.in_ok-changesets.ensures)

pub returns : goal.returns
returns c =
    let s = c.args.replica.now in
    let f = content_of s in
    let pins = c.args.kept.now.pins in
    let common = c.args.common.now in
    let back = sym c.requires.replica in
    let out = subst (λ (t : ReplicaState). ArePlacesOf
    (IsOutgoing (content_of t) (IsServedUnder (content_of t) pins) common) (changesets t.history)
    c.in_ok-changesets.changesets.items) back c.in_ok-changesets.ensures in
    let bounds = subst (λ (t : ReplicaState). AreOfferedBounds (content_of t) (IsServedUnder (content_of t) pins)
    c.in_ok-bounds.bounds.items) back c.in_ok-bounds.ensures in
    let markers = subst (λ (t : ReplicaState). ArePlaces (IsNamedMarker (content_of t) pins Served) t.markers
    c.in_ok-markers.markers.items) back c.in_ok-markers.ensures in (
      is-offer s c.is_valid.ensures pins common Served _ c.in_ok-bounds.bounds.items _
          (picked-those (IsOutgoing f (IsServedUnder f pins) common) (changesets s.history)
          c.in_ok-changesets.changesets.items out)
          bounds
          (picked-those (IsNamedMarker f pins Served) s.markers c.in_ok-markers.markers.items markers),
      refl,
    )
