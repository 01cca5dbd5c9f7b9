use Rattle.hg_discovery.proofs.ServedLemmas.{common_is_known}
use Rattle.hg_discovery.proofs.laws.what_is_common_is_what_is_served.Goals as goal

pub returns : goal.returns
returns c ours theirs pins start t rounds valid_ours valid free is run done =
    common_is_known ours theirs pins valid free start t rounds is run done
