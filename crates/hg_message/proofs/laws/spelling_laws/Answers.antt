use Rattle.hg_message.proofs.SpellingLemmas.{written_says}
use Rattle.hg_message.proofs.MessageLemmas.{one_spelling}
use Rattle.hg_message.proofs.laws.spelling_laws.Goals as goal

pub returns-clause-once : goal.returns-clause-once
returns-clause-once c = one_spelling

pub returns-clause-again : goal.returns-clause-again
returns-clause-again c = written_says
