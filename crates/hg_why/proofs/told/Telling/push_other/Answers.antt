use Rattle.hg_log.proofs.TextLemmas.{last_has_id}
use Rattle.hg_why.proofs.told.Telling.push_other.Goals as goal

pub returns : goal.returns
returns c =
    last_has_id c.push_both_ways.result c.args.predecessor _ _ c.in_ok-push_about.ensures c.push_both_ways.ensures
