use Rattle.std.proofs.Common.{sym, subst}
use Rattle.hg_message.specs.declared.scope.Scope.TheVariants.{Served}
use Rattle.hg_message.specs.Offer.{IsOfferOf}
use Rattle.hg_message.proofs.OfferLemmas.{nothing-offered}
use Rattle.hg_message.proofs.outgoing.above_served.Goals as goal

pub returns-in-None : goal.returns-in-None
returns-in-None c =
    let s = c.args.replica.now in
    let pins = c.args.kept.now.pins in
    let common = c.args.common.now in
    let none = c.has_nothing.ensures.nothing.0 c.if-has_nothing.true in (
      c.in-None.ensures,
      subst (IsOfferOf s pins common Served) (sym c.nothing.ensures)
          (nothing-offered s c.has_nothing.ensures.valid pins common Served none),
    )
