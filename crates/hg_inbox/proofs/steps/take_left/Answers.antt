use Rattle.hg_inbox.proofs.MoveLemmas.{takes_next, wholes}
use Rattle.hg_inbox.proofs.steps.take_left.Goals as goal

pub pop_as-requires-clause-rule : goal.pop_as-requires-clause-rule
pop_as-requires-clause-rule g c = (takes_next _ _ c.requires.1, wholes _ _ c.requires.1)
