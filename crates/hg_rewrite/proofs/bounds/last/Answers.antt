use Rattle.hg_rewrite.proofs.PartLemmas.{last_at}
use Rattle.hg_rewrite.proofs.bounds.last.Goals as goal

pub returns-in-Some : goal.returns-in-Some
returns-in-Some c = last_at c.args.nodes.now c.in-Some.node.now c.in-Some.ensures.value
