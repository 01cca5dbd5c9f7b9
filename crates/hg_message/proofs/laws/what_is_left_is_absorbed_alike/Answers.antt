use Rattle.hg_message.proofs.KnownLemmas.{part-answered, part-grown}
use Rattle.hg_message.proofs.laws.what_is_left_is_absorbed_alike.Goals as goal

pub returns-clause-answered : goal.returns-clause-answered
returns-clause-answered c = part-answered

pub returns-clause-grown : goal.returns-clause-grown
returns-clause-grown c = part-grown
