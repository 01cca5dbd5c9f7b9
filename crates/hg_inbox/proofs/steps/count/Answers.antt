use Rattle.hg_inbox.proofs.MoveLemmas.{wholes}
use Rattle.hg_inbox.proofs.steps.count.Goals as goal

pub len_as-requires-clause-rule : goal.len_as-requires-clause-rule
len_as-requires-clause-rule g c = wholes _ _ c.requires.1
