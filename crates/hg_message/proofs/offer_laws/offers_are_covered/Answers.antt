use Rattle.hg_message.proofs.OfferLawLemmas.{offer-covered}
use Rattle.hg_message.proofs.offer_laws.offers_are_covered.Goals as goal

pub returns : goal.returns
returns c = λ f pins common m valid says. offer-covered f pins common m says valid
