use Rattle.hg_log.proofs.TextLemmas.{third_pushed}
use Rattle.hg_log.proofs.entry.push_marker_list.Goals as goal

pub returns : goal.returns
returns c =
    third_pushed c.push_text-2.result _ _ _ _ _ _ _ c.in_ok-push_text.ensures c.in_ok-push_each_marker.ensures
    c.push_text-2.ensures
