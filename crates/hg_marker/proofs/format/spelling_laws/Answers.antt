use Rattle.hg_marker.proofs.MarkerLemmas as marker
use Rattle.hg_marker.proofs.format.spelling_laws.Goals as goal

pub returns-clause-once : goal.returns-clause-once
returns-clause-once c = marker.one_spelling

pub returns-clause-again : goal.returns-clause-again
returns-clause-again c = marker.written_again
