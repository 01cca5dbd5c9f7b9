use Rattle.hg_view.proofs.HiddenLemmas.{hidden-extinct}
use Rattle.hg_view.proofs.laws.hidden_is_extinct.Goals as goal

pub returns : goal.returns
returns c s n valid = hidden-extinct s valid n
