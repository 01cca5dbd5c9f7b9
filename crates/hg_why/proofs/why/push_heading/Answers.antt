use Rattle.hg_log.proofs.TextLemmas.{last_pushed}
use Rattle.hg_why.proofs.why.push_heading.Goals as goal

pub returns : goal.returns
returns c = last_pushed c.push_text-2.result _ _ _ _ _ c.in_ok-push_text.ensures c.push_text-2.ensures
