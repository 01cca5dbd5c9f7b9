use Rattle.hg_message.proofs.AdmittedLemmas.{offer-admitted, offer-admitted_empty}
use Rattle.hg_message.proofs.offer_laws.offers_are_admitted.Goals as goal

pub returns-clause-above : goal.returns-clause-above
returns-clause-above c = λ s pins common m g valid offer has apart.
    offer-admitted s valid pins common m offer g has apart

pub returns-clause-empty : goal.returns-clause-empty
returns-clause-empty c = offer-admitted_empty
