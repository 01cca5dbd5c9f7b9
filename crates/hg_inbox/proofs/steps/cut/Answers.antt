use Rattle.hg_inbox.proofs.MoveLemmas.{forks}
use Rattle.hg_inbox.proofs.steps.cut.Goals as goal

pub another-requires-clause-rule : goal.another-requires-clause-rule
another-requires-clause-rule c = forks _ _ c.requires.1
