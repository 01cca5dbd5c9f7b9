use Rattle.hg_log.proofs.TextLemmas.{last_appended}
use Rattle.hg_log.proofs.entry.push_string_field.Goals as goal

pub returns : goal.returns
returns c = last_appended c.push_string.result _ _ _ _ _ c.in_ok-push_key.ensures c.push_string.ensures
