use Rattle.hg_message.proofs.NamedLemmas.{named-not_secret}
use Rattle.hg_message.proofs.OfferLawLemmas.{named-changesets, named-bounds}
use Rattle.hg_message.proofs.offer_laws.offers_hold_what_their_scope_names.Goals as goal

pub returns-clause-changesets : goal.returns-clause-changesets
returns-clause-changesets c = named-changesets

pub returns-clause-bounds : goal.returns-clause-bounds
returns-clause-bounds c = named-bounds

pub returns-clause-secret : goal.returns-clause-secret
returns-clause-secret c = λ f pins scope n secret named. named-not_secret f pins scope n named secret

pub returns-clause-hidden : goal.returns-clause-hidden
returns-clause-hidden c = λ f pins n hidden served. hidden.1 served.0
