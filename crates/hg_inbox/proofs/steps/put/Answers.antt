use Rattle.hg_inbox.proofs.MoveLemmas.{puts, agrees}
use Rattle.hg_inbox.proofs.steps.put.Goals as goal

pub push_as-requires-clause-rule : goal.push_as-requires-clause-rule
push_as-requires-clause-rule g c = (puts _ _ _ _ c.requires.1, agrees _ _)
