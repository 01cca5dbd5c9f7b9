use Rattle.std.proofs.Common.{sym, subst}
use Rattle.hg_message.specs.Offer.{IsOfferOf}
use Rattle.hg_message.proofs.OfferLemmas.{nothing-offered, find-refused}
use Rattle.hg_message.proofs.offers.offer.Goals as goal

pub returns-in-Ok : goal.returns-in-Ok
returns-in-Ok c =
    let s = c.args.replica.now in
    let pins = c.args.pins.now in
    let common = c.args.common.now in
    let none = c.has_nothing.ensures.nothing.0 c.if-has_nothing.true in (
      c.in-Ok.ensures.0,
      subst (IsOfferOf s pins common c.args.scope) (sym c.nothing.ensures)
          (nothing-offered s c.has_nothing.ensures.valid pins common c.args.scope none),
    )

pub returns-in-Err : goal.returns-in-Err
returns-in-Err c =
    find-refused c.args.replica.now c.args.pins.now c.args.common.now c.args.scope c.in-Err.refusal c.in-Err.ensures
