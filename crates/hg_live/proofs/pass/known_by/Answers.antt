use Rattle.std.proofs.Common.{subst}
use Rattle.hg_replica.specs.Content.{content_of}
use Rattle.hg_view.specs.Kept.{KeptValue}
use Rattle.hg_discovery.specs.Rounds.{AreKnown}
use Rattle.hg_live.proofs.pass.known_by.Goals as goal

pub returns-in-Ok-clause-ok : goal.returns-in-Ok-clause-ok
returns-in-Ok-clause-ok c =
    subst (λ (k : KeptValue). AreKnown (content_of k.replica) k.pins c.args.nodes.now c.in-Ok.answers.items)
    c.kept.ensures c.in-Ok.ensures
