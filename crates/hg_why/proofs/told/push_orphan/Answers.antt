use Rattle.hg_log.proofs.TextLemmas.{last_has_id}
use Rattle.hg_why.proofs.told.push_orphan.Goals as goal

pub returns : goal.returns
returns c =
    last_has_id c.push_fate_of_parent.result c.args.parent _ _ c.in_ok-push_about.ensures c.push_fate_of_parent.ensures
