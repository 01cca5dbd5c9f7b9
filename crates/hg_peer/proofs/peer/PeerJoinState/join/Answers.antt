use Rattle.hg_history.proofs.ContentLemmas.{whatever_answer}
use Rattle.hg_replica.specs.Content.{content_of, IsValidContent}
use Rattle.hg_replica.proofs.ContentLemmas.{content-valid, joined-content, join-unchanged, refused-join}
use Rattle.hg_peer.proofs.PeerLemmas.{unchanged-peer}
use Rattle.hg_peer.proofs.peer.PeerJoinState.join.Goals as goal

pub returns-clause-joined : goal.returns-clause-joined
returns-clause-joined c =
    rw (← c.self.view_is) (rw (← c.other.view_is) (joined-content c.self.inside.kept.replica
    c.other.inside.kept.replica c.join.new.self.replica c.join.result c.join.ensures.valid c.join.ensures.other_valid
    c.join.ensures.answer))

pub returns-clause-valid : goal.returns-clause-valid
returns-clause-valid c =
    rw (← c.self.view_is) (whatever_answer c.join.result (IsValidContent (content_of c.self.inside.kept.replica))
    (content-valid c.self.inside.kept.replica c.join.ensures.valid))

pub returns-clause-other_valid : goal.returns-clause-other_valid
returns-clause-other_valid c =
    rw (← c.other.view_is) (whatever_answer c.join.result (IsValidContent (content_of c.other.inside.kept.replica))
    (content-valid c.other.inside.kept.replica c.join.ensures.other_valid))

pub returns-clause-fault : goal.returns-clause-fault
returns-clause-fault c =
    rw (← c.self.view_is) (rw (← c.other.view_is) (refused-join c.self.inside.kept.replica c.other.inside.kept.replica
    c.join.new.self.replica c.join.result c.join.ensures.valid c.join.ensures.other_valid c.join.ensures.answer))

pub returns-clause-err : goal.returns-clause-err
returns-clause-err c =
    rw (← c.self.view_is) (unchanged-peer c.self.inside.kept c.join.new.self c.join.result c.join.ensures.pins
    (join-unchanged c.self.inside.kept.replica c.other.inside.kept.replica c.join.new.self.replica c.join.result
    c.join.ensures.answer))
