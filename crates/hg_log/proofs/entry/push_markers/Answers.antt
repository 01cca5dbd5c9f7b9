use Rattle.hg_log.proofs.TextLemmas.{last_appended}
use Rattle.hg_log.proofs.entry.push_markers.Goals as goal

pub returns : goal.returns
returns c = last_appended c.push_marker_list.result _ _ _ _ _ c.in_ok-push_key.ensures c.push_marker_list.ensures
