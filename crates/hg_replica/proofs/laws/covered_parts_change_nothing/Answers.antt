use Rattle.hg_replica.proofs.LeastLemmas.{least-covered, admitted-covered, covered_above}
use Rattle.hg_replica.proofs.laws.covered_parts_change_nothing.Goals as goal

pub returns-clause-admitted : goal.returns-clause-admitted
returns-clause-admitted c s k valid covers = admitted-covered s k valid covers

pub returns-clause-least : goal.returns-clause-least
returns-clause-least c s ks valid covers = least-covered s ks valid covers

pub returns-clause-stays : goal.returns-clause-stays
returns-clause-stays c s t k valid covers above = covered_above s t k valid covers above
