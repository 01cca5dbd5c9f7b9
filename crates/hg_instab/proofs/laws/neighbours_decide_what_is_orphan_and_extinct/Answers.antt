use Rattle.hg_instab.proofs.LocalLemmas.{orphan-by_parents, extinct-by_children}
use Rattle.hg_instab.proofs.laws.neighbours_decide_what_is_orphan_and_extinct.Goals as goal

pub returns-clause-orphan : goal.returns-clause-orphan
returns-clause-orphan c s n valid = orphan-by_parents s valid n

pub returns-clause-extinct : goal.returns-clause-extinct
returns-clause-extinct c s n valid = extinct-by_children s valid n
