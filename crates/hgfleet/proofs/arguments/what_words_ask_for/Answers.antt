use Rattle.hgfleet.proofs.AskedLemmas.{are_asked_for}
use Rattle.hgfleet.proofs.arguments.what_words_ask_for.Goals as goal

pub returns : goal.returns
returns c = are_asked_for
