use Rattle.hg_inbox.proofs.MoveLemmas.{merges}
use Rattle.hg_inbox.proofs.steps.give_back.Goals as goal

pub absorb-requires-clause-rule : goal.absorb-requires-clause-rule
absorb-requires-clause-rule c = merges _ _ _ _
