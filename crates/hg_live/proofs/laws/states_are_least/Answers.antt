use Rattle.hg_replica.proofs.LeastLemmas.{least-one_by_one}
use Rattle.hg_live.specs.After.{parts_among}
use Rattle.hg_live.proofs.AfterLemmas.{after_least}
use Rattle.hg_live.proofs.laws.states_are_least.Goals as goal

pub returns-clause-one_by_one : goal.returns-clause-one_by_one
returns-clause-one_by_one c before after entries leads = after_least before after entries leads

pub returns-clause-formula : goal.returns-clause-formula
returns-clause-formula c before after entries valid leads =
    least-one_by_one before.replica after.replica (parts_among entries) valid (after_least before after entries leads)
