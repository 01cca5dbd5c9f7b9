use Rattle.hg_replica.proofs.ContentLemmas.{content-valid, content-below, below_from_content, content-covers}
use Rattle.hg_replica.proofs.ContentLemmas.{covers_from_content, content-after, least_from_content, content-fault}
use Rattle.hg_replica.proofs.ContentLemmas.{fault_from_content}
use Rattle.hg_replica.proofs.ContentLemmas.{join-contents, join_from_content}
use Rattle.hg_replica.proofs.laws.contents_say_what_states_say.Goals as goal

pub returns-clause-valid : goal.returns-clause-valid
returns-clause-valid c s v = content-valid s v

pub returns-clause-below : goal.returns-clause-below
returns-clause-below c s t v w = (content-below s t w, below_from_content s t v)

pub returns-clause-covers : goal.returns-clause-covers
returns-clause-covers c s k v = (content-covers s k v, covers_from_content s k v)

pub returns-clause-after : goal.returns-clause-after
returns-clause-after c s t k v w = (λ h. content-after s t k v w h.0 h.1, least_from_content s t k v w)

pub returns-clause-fault : goal.returns-clause-fault
returns-clause-fault c s k fault v = (content-fault s k fault v, fault_from_content s k fault v)

pub returns-clause-joined : goal.returns-clause-joined
returns-clause-joined c s o t u v w = (join-contents s o t u v w, join_from_content s o t u v w)
