use Rattle.hg_phases.specs.State.{changesets}
use Rattle.hg_history.proofs.OpenLemmas.{own-refused}
use Rattle.hg_replica.specs.Answer.{OpenAnswer}
use Rattle.hg_replica.proofs.RootLemmas.{read_fault, own-same-replica}
use Rattle.hg_replica.proofs.laws.opened_with_its_own_is_the_same.Goals as goal

pub returns-clause-read : goal.returns-clause-read
returns-clause-read c s roots text error valid are written h = read_fault s.history roots text valid are written error h

pub returns-clause-opened : goal.returns-clause-opened
unfolding OpenAnswer
returns-clause-opened c s read fault valid h = own-refused (changesets s.history) valid.graph read fault h

pub returns-clause-same : goal.returns-clause-same
returns-clause-same c s t roots read text valid are written h opened =
    own-same-replica s t roots read text valid are written h opened
