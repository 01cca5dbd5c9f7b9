use Rattle.hg_message.proofs.OfferLawLemmas.{offer-once}
use Rattle.hg_message.proofs.ExistLemmas.{offer-exists}
use Rattle.hg_message.proofs.offer_laws.an_offer_is_one.Goals as goal

pub returns-clause-once : goal.returns-clause-once
returns-clause-once c = offer-once

pub returns-clause-exists : goal.returns-clause-exists
returns-clause-exists c = offer-exists
