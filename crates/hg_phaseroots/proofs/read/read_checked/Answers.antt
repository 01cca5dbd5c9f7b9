use Rattle.hg_phaseroots.proofs.SpellingLemmas.{as_reading}
use Rattle.hg_phaseroots.proofs.read.read_checked.Goals as goal

pub returns-in-Err : goal.returns-in-Err
returns-in-Err c = as_reading c.args.text.now c.in-Err.fault c.in-Err.ensures
