use Rattle.hg_log.proofs.TextLemmas.{last_extends}
use Rattle.hg_log.proofs.boxes.push_looks.Goals as goal

pub returns : goal.returns
returns c = last_extends c.push_style.result _ _ _ c.in_ok-push_state.ensures c.push_style.ensures
