use Rattle.hg_view.proofs.PinLemmas.{hidden_under-extinct}
use Rattle.hg_view.proofs.laws.what_is_hidden_under_pins_is_extinct.Goals as goal

pub returns : goal.returns
returns c = hidden_under-extinct
