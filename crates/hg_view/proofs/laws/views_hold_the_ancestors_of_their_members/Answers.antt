use Rattle.hg_view.proofs.LawLemmas.{visible-above, served-above}
use Rattle.hg_view.proofs.laws.views_hold_the_ancestors_of_their_members.Goals as goal

pub returns-clause-visible : goal.returns-clause-visible
returns-clause-visible c = visible-above

pub returns-clause-served : goal.returns-clause-served
returns-clause-served c = served-above
