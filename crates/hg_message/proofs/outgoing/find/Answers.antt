use Rattle.std.proofs.Common.{refl}
use Rattle.hg_phases.specs.State.{changesets}
use Rattle.hg_replica.specs.Content.{content_of}
use Rattle.hg_message.specs.Offer.{IsNamed, IsNamedMarker, IsOutgoing}
use Rattle.hg_message.proofs.OfferLemmas.{is-offer, picked-those, picked-length}
use Rattle.hg_message.proofs.outgoing.find.Goals as goal

pub invariant_of-result : goal.invariant_of-result
invariant_of-result c =
    let f = content_of c.args.replica.now in
    picked-length (IsOutgoing f (IsNamed f c.requires.named.0 c.args.scope) c.args.common.now)
    (changesets c.args.replica.now.history) c.in_ok-changesets.changesets.items
    (c.in_ok-changesets.ensures.places c.requires.named.0 c.args.scope c.requires.named.1)

pub returns : goal.returns
returns c = λ pins named.
    let s = c.args.replica.now in
    let f = content_of s in
    let common = c.args.common.now in
    let scope = c.args.scope in (
      is-offer s c.in_ok-changesets.ensures.valid pins common scope _ c.in_ok-bounds.bounds.items _
          (picked-those (IsOutgoing f (IsNamed f pins scope) common) (changesets s.history)
          c.in_ok-changesets.changesets.items (c.in_ok-changesets.ensures.places pins scope named))
          (c.in_ok-bounds.ensures pins scope named)
          (picked-those (IsNamedMarker f pins scope) s.markers c.in_ok-markers.markers.items
          (c.in_ok-markers.ensures pins named)),
      refl,
    )
