use Rattle.hg_log.proofs.TextLemmas.{last_appended}
use Rattle.hg_log.proofs.entry.push_unstable.Goals as goal

pub returns : goal.returns
returns c = last_appended c.push_unstable_words.result _ _ _ _ _ c.in_ok-push_key.ensures c.push_unstable_words.ensures
