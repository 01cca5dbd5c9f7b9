use Rattle.hg_view.proofs.PinLemmas.{visible-unpinned, hidden-unpinned, served-unpinned}
use Rattle.hg_view.proofs.laws.no_pins_change_no_view.Goals as goal

pub returns-clause-visible : goal.returns-clause-visible
returns-clause-visible c = visible-unpinned

pub returns-clause-hidden : goal.returns-clause-hidden
returns-clause-hidden c = hidden-unpinned

pub returns-clause-served : goal.returns-clause-served
returns-clause-served c = served-unpinned
