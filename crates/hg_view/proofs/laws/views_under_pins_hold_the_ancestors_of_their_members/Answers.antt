use Rattle.hg_view.proofs.PinLemmas.{visible_under-above, served_under-above}
use Rattle.hg_view.proofs.laws.views_under_pins_hold_the_ancestors_of_their_members.Goals as goal

pub returns-clause-visible : goal.returns-clause-visible
returns-clause-visible c = visible_under-above

pub returns-clause-served : goal.returns-clause-served
returns-clause-served c = served_under-above
