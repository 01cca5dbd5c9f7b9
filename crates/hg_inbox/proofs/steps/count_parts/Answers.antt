use Rattle.hg_inbox.proofs.MoveLemmas.{parts_most}
use Rattle.hg_inbox.proofs.steps.count_parts.Goals as goal

pub learn_as-requires-clause-rule : goal.learn_as-requires-clause-rule
learn_as-requires-clause-rule c = parts_most _ _
