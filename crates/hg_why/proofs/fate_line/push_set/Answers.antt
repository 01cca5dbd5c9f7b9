use Rattle.hg_log.proofs.TextLemmas.{third_pushed}
use Rattle.hg_why.proofs.fate_line.push_set.Goals as goal

pub returns : goal.returns
returns c =
    third_pushed c.push_text-2.result _ _ _ _ _ _ _ c.in_ok-push_text.ensures c.in_ok-push_each_name.ensures
    c.push_text-2.ensures
