use Rattle.hg_replica.specs.Content.{Content}
use Rattle.hg_replica.specs.Evolution.{IsVisible, IsHidden, IsServed}
use Rattle.hg_replica.proofs.ContentLemmas.{content-alike}
use Rattle.hg_view.proofs.laws.states_of_one_content_have_the_same_views.Goals as goal

pub returns-clause-visible : goal.returns-clause-visible
returns-clause-visible c s t n = content-alike (λ (f : Content). IsVisible f n) s t

pub returns-clause-hidden : goal.returns-clause-hidden
returns-clause-hidden c s t n = content-alike (λ (f : Content). IsHidden f n) s t

pub returns-clause-served : goal.returns-clause-served
returns-clause-served c s t n = content-alike (λ (f : Content). IsServed f n) s t
