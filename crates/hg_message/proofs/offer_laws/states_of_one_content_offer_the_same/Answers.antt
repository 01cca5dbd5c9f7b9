use Rattle.std.proofs.Common.{sym, subst}
use Rattle.hg_replica.specs.Content.{Content, content_of}
use Rattle.hg_replica.proofs.ContentLemmas.{content-same}
use Rattle.hg_message.specs.Offer.{SaysOffer}
use Rattle.hg_message.proofs.OfferLawLemmas.{offers-say_the_same, says-members, same-covered}
use Rattle.hg_message.proofs.offer_laws.states_of_one_content_offer_the_same.Goals as goal

pub returns-clause-same : goal.returns-clause-same
returns-clause-same c = λ s t pins others common m n v w same members scope a b.
    offers-say_the_same (content_of s) pins common m n scope a.says
    (subst (λ (f : Content). SaysOffer f pins common n) (sym (content-same s t v w same))
    (says-members (content_of t) pins others common n members b.says))

pub returns-clause-covered : goal.returns-clause-covered
returns-clause-covered c = same-covered
