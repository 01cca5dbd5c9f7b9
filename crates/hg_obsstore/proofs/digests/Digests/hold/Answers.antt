use Rattle.std.proofs.Common.{◌∙◌, sym, ap, subst, take, drop, Contains, ⊎_elim}
use Rattle.std.proofs.lemmas.Bool.{false≢true}
use Rattle.hg_obsstore.specs.Digests.{scanned, under}
use Rattle.hg_obsstore.proofs.DigestLemmas.{among_sound, among_complete, first_or_beyond}
use Rattle.hg_obsstore.proofs.digests.Digests.hold.Goals as goal

pub returns-then-places-le-SCANNED-clause-sound : goal.returns-then-places-le-SCANNED-clause-sound
returns-then-places-le-SCANNED-clause-sound c = λ h.
    among_sound c.args.markers.now c.args.marker.now _ (sym c.is_among.ensures ∙ h)

pub returns-then-places-le-SCANNED-clause-complete : goal.returns-then-places-le-SCANNED-clause-complete
returns-then-places-le-SCANNED-clause-complete c = λ i at there d.
    c.is_among.ensures ∙ among_complete c.args.markers.now c.args.marker.now c.args.places.now i at there

pub returns-then-is_among-clause-sound : goal.returns-then-is_among-clause-sound
returns-then-is_among-clause-sound c = λ h.
    among_sound c.args.markers.now c.args.marker.now _ (sym c.is_among-2.ensures ∙ h)

pub returns-else-is_among-clause-sound : goal.returns-else-is_among-clause-sound
returns-else-is_among-clause-sound c = λ h.
    among_sound c.args.markers.now c.args.marker.now _ (sym c.is_among-else-is_among.ensures ∙ h)

pub returns-else-is_among-clause-complete : goal.returns-else-is_among-clause-complete
returns-else-is_among-clause-complete c = λ i at there d.
    let ps = c.args.places.now in
    ⊎_elim (λ (first : Contains (take scanned ps) i). absurd (false≢true
    (sym c.if-is_among.false ∙ c.is_among-2.ensures ∙ among_complete _ _ _ _ at first)))
    (λ (beyond : Contains (drop scanned ps) i). c.is_among-else-is_among.ensures ∙ among_complete _ _ _ _ at
    (subst (λ qs. Contains qs i) (sym (c.places.ensures ∙ ap (under c.args.self.now) c.digest_of.ensures)) (d beyond)))
    (first_or_beyond _ _ there)
