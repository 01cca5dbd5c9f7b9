use Rattle.hg_view.proofs.UpheldLemmas.{visible-upheld}
use Rattle.hg_view.proofs.laws.what_pins_uphold_is_visible.Goals as goal

pub returns : goal.returns
returns c s pins upheld sets n valid kept are = visible-upheld s valid pins upheld are sets kept n
