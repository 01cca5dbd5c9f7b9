use Rattle.hg_view.proofs.PinLemmas.{visible_under-alike, hidden_under-alike, served_under-alike}
use Rattle.hg_view.proofs.laws.states_of_one_content_have_the_same_views_under_pins.Goals as goal

pub returns-clause-visible : goal.returns-clause-visible
returns-clause-visible c = visible_under-alike

pub returns-clause-hidden : goal.returns-clause-hidden
returns-clause-hidden c = hidden_under-alike

pub returns-clause-served : goal.returns-clause-served
returns-clause-served c = served_under-alike
