use Rattle.hg_replica.proofs.ContentLemmas.{content-below, below_from_content, content-valid}
use Rattle.hg_replica.proofs.join_state.ReplicaJoinState.below.Goals as goal

pub returns-clause-answer : goal.returns-clause-answer
returns-clause-answer c = (
  λ h. content-below c.args.self.now c.args.other.now c.is_below.ensures.other_valid (c.is_below.ensures.answer.0 h),
  λ h. c.is_below.ensures.answer.1 (below_from_content c.args.self.now c.args.other.now c.is_below.ensures.valid h),
)

pub returns-clause-valid : goal.returns-clause-valid
returns-clause-valid c = content-valid c.args.self.now c.is_below.ensures.valid

pub returns-clause-other_valid : goal.returns-clause-other_valid
returns-clause-other_valid c = content-valid c.args.other.now c.is_below.ensures.other_valid
