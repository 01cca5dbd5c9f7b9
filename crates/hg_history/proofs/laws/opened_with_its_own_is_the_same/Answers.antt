use Rattle.hg_phases.specs.State.{changesets}
use Rattle.hg_history.proofs.OpenLemmas.{own-refused, own-same}
use Rattle.hg_history.proofs.laws.opened_with_its_own_is_the_same.Goals as goal

pub returns-clause-refused : goal.returns-clause-refused
returns-clause-refused c s roots fault valid h = own-refused (changesets s) valid.graph roots fault h

pub returns-clause-same : goal.returns-clause-same
returns-clause-same c s t roots listed valid are same opened = own-same s t roots listed valid are same opened
