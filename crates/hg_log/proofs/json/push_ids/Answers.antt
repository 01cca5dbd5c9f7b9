use Rattle.hg_log.proofs.TextLemmas.{third_pushed}
use Rattle.hg_log.proofs.json.push_ids.Goals as goal

pub returns : goal.returns
returns c =
    third_pushed c.push_text-2.result _ _ _ _ _ _ _ c.in_ok-push_text.ensures c.in_ok-push_each_id.ensures
    c.push_text-2.ensures
