use Rattle.hg_history.proofs.ContentLemmas.{whatever_answer}
use Rattle.hg_replica.specs.Content.{content_of, IsValidContent}
use Rattle.hg_replica.proofs.ContentLemmas.{content-valid, joined-content, join-unchanged, refused-join}
use Rattle.hg_replica.proofs.join_state.ReplicaJoinState.join.Goals as goal

pub returns-clause-joined : goal.returns-clause-joined
returns-clause-joined c =
    joined-content c.args.self.now c.args.other.now c.join.new.self c.join.result c.join.ensures.valid
    c.join.ensures.other_valid c.join.ensures.answer

pub returns-clause-valid : goal.returns-clause-valid
returns-clause-valid c =
    whatever_answer c.join.result (IsValidContent (content_of c.args.self.now))
    (content-valid c.args.self.now c.join.ensures.valid)

pub returns-clause-other_valid : goal.returns-clause-other_valid
returns-clause-other_valid c =
    whatever_answer c.join.result (IsValidContent (content_of c.args.other.now))
    (content-valid c.args.other.now c.join.ensures.other_valid)

pub returns-clause-fault : goal.returns-clause-fault
returns-clause-fault c =
    refused-join c.args.self.now c.args.other.now c.join.new.self c.join.result c.join.ensures.valid
    c.join.ensures.other_valid c.join.ensures.answer

pub returns-clause-err : goal.returns-clause-err
returns-clause-err c =
    join-unchanged c.args.self.now c.args.other.now c.join.new.self c.join.result c.join.ensures.answer
