use Rattle.hg_replica.specs.Content.{Content}
use Rattle.hg_replica.specs.Evolution.{IsObsolete, IsOrphan, IsSuspended, IsExtinct, IsPhaseDivergent}
use Rattle.hg_instab.specs.Instabilities.{IsContentDivergent}
use Rattle.hg_replica.proofs.ContentLemmas.{content-alike}
use Rattle.hg_instab.proofs.laws.states_of_one_content_have_the_same_instabilities.Goals as goal

pub returns-clause-obsolete : goal.returns-clause-obsolete
returns-clause-obsolete c s t n = content-alike (λ (f : Content). IsObsolete f n) s t

pub returns-clause-orphan : goal.returns-clause-orphan
returns-clause-orphan c s t n = content-alike (λ (f : Content). IsOrphan f n) s t

pub returns-clause-suspended : goal.returns-clause-suspended
returns-clause-suspended c s t n = content-alike (λ (f : Content). IsSuspended f n) s t

pub returns-clause-extinct : goal.returns-clause-extinct
returns-clause-extinct c s t n = content-alike (λ (f : Content). IsExtinct f n) s t

pub returns-clause-phase_divergent : goal.returns-clause-phase_divergent
returns-clause-phase_divergent c s t n = content-alike (λ (f : Content). IsPhaseDivergent f n) s t

pub returns-clause-content_divergent : goal.returns-clause-content_divergent
returns-clause-content_divergent c s t n = content-alike (λ (f : Content). IsContentDivergent f n) s t
