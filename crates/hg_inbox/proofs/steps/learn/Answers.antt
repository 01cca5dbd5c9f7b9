use Rattle.hg_inbox.proofs.MoveLemmas.{wholes}
use Rattle.hg_inbox.proofs.steps.learn.Goals as goal

pub learn_as-requires-clause-rule : goal.learn_as-requires-clause-rule
learn_as-requires-clause-rule c = wholes _ _ c.requires.1
