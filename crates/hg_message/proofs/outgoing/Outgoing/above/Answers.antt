use Rattle.std.proofs.Common.{sym, subst}
use Rattle.hg_replica.specs.Content.{content_of}
use Rattle.hg_message.specs.Offer.{IsNamed, IsOfferOf}
use Rattle.hg_message.specs.Outgoing.{AreMarksOf}
use Rattle.hg_message.proofs.OfferLemmas.{nothing-offered}
use Rattle.hg_message.proofs.outgoing.Outgoing.above.Goals as goal

pub returns-in-None : goal.returns-in-None
returns-in-None c =
    let s = c.args.replica.now in
    let pins = c.args.pins.now in
    let common = c.args.common.now in
    let none = c.has_nothing.ensures.nothing.0 c.if-has_nothing.true in (
      c.in-None.ensures,
      subst (IsOfferOf s pins common c.args.scope) (sym c.nothing.ensures)
          (nothing-offered s c.has_nothing.ensures.valid pins common c.args.scope none),
    )

pub find-requires-clause-named : goal.find-requires-clause-named
find-requires-clause-named c = (
  c.args.pins.now,
  subst (AreMarksOf c.args.replica.now (IsNamed (content_of c.args.replica.now) c.args.pins.now c.args.scope))
      (sym c.deref.ensures.value) c.in_ok-named-in-None-2.ensures,
)

pub returns-in_ok-find-in-None-2 : goal.returns-in_ok-find-in-None-2
returns-in_ok-find-in-None-2 c = (
  c.in-None-2.ensures,
  c.in_ok-find-in-None-2.ensures c.args.pins.now
      (subst (AreMarksOf c.args.replica.now (IsNamed (content_of c.args.replica.now) c.args.pins.now c.args.scope))
      (sym c.deref.ensures.value) c.in_ok-named-in-None-2.ensures),
)
