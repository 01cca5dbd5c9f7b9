use Rattle.hg_log.proofs.TextLemmas.{last_pushed}
use Rattle.hg_log.proofs.entry.push_nodes.Goals as goal

pub returns : goal.returns
returns c = last_pushed c.push_ids.result _ _ _ _ _ c.in_ok-push_text.ensures c.push_ids.ensures
