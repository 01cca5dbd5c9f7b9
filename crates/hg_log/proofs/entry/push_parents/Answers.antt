use Rattle.hg_log.proofs.TextLemmas.{last_appended}
use Rattle.hg_log.proofs.entry.push_parents.Goals as goal

pub returns : goal.returns
returns c = last_appended c.push_parent_ids.result _ _ _ _ _ c.in_ok-push_key.ensures c.push_parent_ids.ensures
