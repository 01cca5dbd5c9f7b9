use Rattle.hg_phases.proofs.ContentLemmas.{content-same, same_from_content}
use Rattle.hg_history.proofs.ContentLemmas.{content-valid, content-below, below_from_content, content-covers}
use Rattle.hg_history.proofs.ContentLemmas.{covers_from_content, content-after, least_from_content, content-fault}
use Rattle.hg_history.proofs.ContentLemmas.{fault_from_content}
use Rattle.hg_history.proofs.JoinLemmas.{join-contents, join_from_content}
use Rattle.hg_history.proofs.laws.contents_say_what_histories_say.Goals as goal

pub returns-clause-one : goal.returns-clause-one
returns-clause-one c s t v w = (same_from_content s t v.graph w.graph, content-same s t v.graph w.graph)

pub returns-clause-valid : goal.returns-clause-valid
returns-clause-valid c s v = content-valid s v

pub returns-clause-below : goal.returns-clause-below
returns-clause-below c s t v w = (content-below s t w.graph, below_from_content s t v.graph)

pub returns-clause-covers : goal.returns-clause-covers
returns-clause-covers c s k v = (content-covers s k v.graph, covers_from_content s k v.graph)

pub returns-clause-after : goal.returns-clause-after
returns-clause-after c s t k v w = (λ h. content-after s t k v w.graph h.1 h.0, least_from_content s t k v w.graph)

pub returns-clause-fault : goal.returns-clause-fault
returns-clause-fault c s k fault v = (content-fault s k fault v.graph, fault_from_content s k fault v.graph)

pub returns-clause-joined : goal.returns-clause-joined
returns-clause-joined c s o t u v w =
    (join-contents s o t u.graph v.graph w.graph, join_from_content s o t u.graph v.graph w.graph)
