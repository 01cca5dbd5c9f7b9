use Rattle.hg_obsstore.proofs.GrowthLemmas.{below_is_within, within_is_below}
use Rattle.hg_obsstore.proofs.join_state.StoreJoinState.below.Goals as goal

pub returns : goal.returns
returns c = (
  (λ h. below_is_within c.args.self.now c.args.other.now (c.is_below.ensures.0 h)),
  (λ h. c.is_below.ensures.1 (within_is_below c.args.self.now c.args.other.now h)),
)
