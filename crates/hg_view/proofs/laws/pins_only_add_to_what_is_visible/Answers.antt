use Rattle.hg_view.proofs.PinLemmas.{visible-pinned, visible-more}
use Rattle.hg_view.proofs.laws.pins_only_add_to_what_is_visible.Goals as goal

pub returns-clause-exact : goal.returns-clause-exact
returns-clause-exact c = visible-pinned

pub returns-clause-more : goal.returns-clause-more
returns-clause-more c f pins more n among = visible-more f pins more among n
