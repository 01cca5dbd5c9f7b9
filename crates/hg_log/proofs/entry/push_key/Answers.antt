use Rattle.hg_log.proofs.TextLemmas.{third_pushed}
use Rattle.hg_log.proofs.entry.push_key.Goals as goal

pub returns : goal.returns
returns c =
    third_pushed c.push_text-3.result _ _ _ _ _ _ _ c.in_ok-push_text.ensures c.in_ok-push_text-2.ensures
    c.push_text-3.ensures
