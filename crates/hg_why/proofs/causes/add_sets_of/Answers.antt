use Rattle.hg_replica.specs.Content.{content_of}
use Rattle.hg_why.proofs.CauseLemmas.{adds-pushed}
use Rattle.hg_why.proofs.causes.add_sets_of.Goals as goal

pub returns : goal.returns
returns c = adds-pushed (content_of c.args.replica.now) _ _ _ c.in_ok-push.ensures.items c.in_ok-sets.ensures
